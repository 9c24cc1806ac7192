-- What a burst does to a transfer. Only contracts of inner functions cite this: no public call rests on believing it.
pub mod Inner
