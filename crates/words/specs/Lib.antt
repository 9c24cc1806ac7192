-- A transfer as words.
pub mod Inner
