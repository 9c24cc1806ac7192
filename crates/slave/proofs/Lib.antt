-- What holds of the definitions.
pub mod Accesses
pub mod Basics
pub mod Corners
pub mod Stores
pub mod Calls
pub mod Waits
pub mod Responses
pub mod Sends
pub mod Fills
