-- Polls that find nothing, one after the other.
pub mod AtFlag
pub mod AtLevel
pub mod AtWait
pub mod Still
