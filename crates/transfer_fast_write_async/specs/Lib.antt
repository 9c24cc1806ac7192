-- What a round of an async write is. Only contracts of inner functions cite this: no public call rests on believing it.
pub mod Inner
