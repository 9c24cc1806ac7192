-- Lemmas for the running code in two bytes.
pub mod Bytes
