-- The machine of a master transfer. Only contracts of inner functions cite this: what the calls leave is said by the crate `master`.
pub mod Inner
