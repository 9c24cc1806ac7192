-- What explain prints of its input.
pub mod Printed
pub mod Claim
pub mod Inner
