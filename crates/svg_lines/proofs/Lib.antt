-- What the proofs of the functions cite, and the claim over calls one after the other.
pub mod Turns
pub mod EveryLine
