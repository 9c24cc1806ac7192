-- What the proofs of the functions cite.
pub mod Signs
pub mod Whole
