-- The slave's machine, and stepping it by hand.
pub mod Steps
pub mod Inner
