-- What the proofs of the functions cite.
pub mod Finds
pub mod Prints
pub mod Legal
pub mod Cleared
