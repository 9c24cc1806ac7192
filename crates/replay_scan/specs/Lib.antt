-- What bytes inside a line lead to.
pub mod Inner
