-- What each way through a turn makes of a run.
pub mod Reach
pub mod Putting
pub mod Polling
