-- Rounds of an async write, step by step.
pub mod Filling
pub mod Fills
