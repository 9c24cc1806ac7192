-- Rounds of an async read, step by step.
pub mod Chosen
pub mod Queueing
pub mod Fetching
pub mod Rounds
