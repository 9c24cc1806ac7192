-- What holds of a point as numbers.
pub mod Kept
