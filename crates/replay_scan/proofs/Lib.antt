-- What the proofs of the functions cite.
pub mod Kept
pub mod Skipped
pub mod Moves
