-- The claim for the whole program.
pub mod Whole
