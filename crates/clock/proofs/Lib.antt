-- The machine against the Rust, its bounds, steps against the call, and the rate against both.
pub mod Agrees
pub mod Bounds
pub mod Stepped
pub mod Rated
