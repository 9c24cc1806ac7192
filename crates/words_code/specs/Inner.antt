-- Definitions that only contracts cite: no public statement rests on believing them.
pub mod Code
