-- Lines of answers as frames.
pub mod Frames
