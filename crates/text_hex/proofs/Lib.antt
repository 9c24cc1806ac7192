-- What the proofs of the functions cite.
pub mod Appends
pub mod Adding
pub mod Numbers
pub mod Pairs
pub mod Tables
