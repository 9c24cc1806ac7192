-- A run between two of its states. Only contracts of inner functions cite this: no public call rests on believing it.
pub mod Inner
