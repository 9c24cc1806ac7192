-- What the proofs of the functions cite, and that only a `listen` stores into the lent buffer.
mod Agree
pub mod Buffer
