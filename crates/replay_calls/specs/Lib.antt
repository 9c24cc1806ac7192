-- What a call of the replay leaves and prints.
pub mod Form
pub mod Calls
pub mod Inner
