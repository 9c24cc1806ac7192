-- Steps of a transfer over recorded readings. Only contracts of inner
-- functions cite this: what the calls leave is said by the crate `master`.
pub mod Inner
