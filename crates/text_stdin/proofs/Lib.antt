-- What the proofs of the functions cite, and the lines of an input one after the other.
pub mod Answers
pub mod Taking
pub mod Joined
pub mod Reading
pub mod Lines
pub mod EveryLine
