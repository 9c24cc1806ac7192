-- Definitions that only the contracts of inner functions cite: no public statement rests on believing them.
pub mod Whole
pub mod Words
