-- Definitions that only proofs and the contracts of inner functions cite: no public statement rests on believing them.
pub mod Message
pub mod Settled
pub mod Running
