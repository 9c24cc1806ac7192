-- What the proofs of the functions cite.
pub mod Printing
pub mod Digits
pub mod ReadBack
