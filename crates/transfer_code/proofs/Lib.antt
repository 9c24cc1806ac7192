-- What the proofs of the functions cite, and what a settled run leaves.
pub mod Coding
pub mod LastAt
pub mod Cases
pub mod Settling
