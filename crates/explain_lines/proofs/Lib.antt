-- What the proofs of the functions cite, and the claim over calls one after the other.
pub mod Rooms
pub mod Steps
pub mod Cut
pub mod EveryLine
