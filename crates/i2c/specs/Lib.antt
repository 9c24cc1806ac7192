-- Stepping the transfers by hand, and the limits as the code tests them, which only contracts of inner functions
-- cite: what the calls leave is said by the crate `master`.
pub mod Steps
pub mod Inner
