-- The law of the pieces, and what the proofs of the functions cite.
pub mod Pieces
pub mod Spaces
pub mod Texts
