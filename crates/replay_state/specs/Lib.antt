-- What is still printed from a state of the reader on.
pub mod Inner
