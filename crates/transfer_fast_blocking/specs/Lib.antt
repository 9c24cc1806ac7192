-- What a burst is. Only contracts of inner functions cite this: no public call rests on believing it.
pub mod Inner
