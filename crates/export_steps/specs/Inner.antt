-- Definitions that only contracts and the hypotheses of a caller's loop cite: no public statement rests on believing them.
pub mod Steps
