-- The machine of a response.
pub mod Inner
