-- Laws of the sequence that a log makes.
pub mod Sequence
