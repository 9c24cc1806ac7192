-- What the replay does with all that is read.
pub mod Replayed
