-- What a burst does to the slave. Only contracts of inner functions cite this: no public call rests on believing it.
pub mod Inner
