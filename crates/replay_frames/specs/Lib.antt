-- A line of the input as a frame.
pub mod Frame
pub mod Inner
