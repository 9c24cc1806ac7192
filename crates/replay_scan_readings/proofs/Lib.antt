-- What the proofs of the functions cite.
pub mod Scans
pub mod Readings
pub mod Words
pub mod Runs
