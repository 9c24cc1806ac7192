-- Polls that find nothing to do, one after the other.
pub mod Awaiting
pub mod Idling
