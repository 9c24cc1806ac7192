-- Definitions that only the contracts of inner functions cite: no public statement rests on believing them.
pub mod Machine
pub mod Watched
pub mod Summed
pub mod Recording
