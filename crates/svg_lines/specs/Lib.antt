-- What bus_svg writes of its input.
pub mod Drawn
pub mod Claim
pub mod Inner
