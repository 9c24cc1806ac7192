-- The machine of `listen`.
pub mod Inner
