-- Reads of standard input; what a line of the input is, and what is left behind it.
pub mod Reads
pub mod Handed
