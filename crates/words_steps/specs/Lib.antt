-- Steps on words.
pub mod Inner
