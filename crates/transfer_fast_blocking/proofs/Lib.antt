-- Bursts, step by step.
pub mod Reading
pub mod Writing
pub mod Bursting
