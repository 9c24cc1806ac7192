-- What the proofs of the functions cite, and the claim over them.
pub mod Moving
pub mod EveryRead
