-- A point as numbers.
pub mod Held
pub mod Inner
