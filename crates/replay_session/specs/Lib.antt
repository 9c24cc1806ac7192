-- Frames in order: what the replay is to print.
pub mod Session
pub mod Inner
