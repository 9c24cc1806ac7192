-- What a reader has to believe of the registers, and the language in which the drivers are written down.
pub mod Registers
pub mod Fields
pub mod Program
pub mod Answers
pub mod Log
pub mod Bounds
pub mod Store
pub mod Steps
pub mod Left
pub mod Watched
pub mod Legality
pub mod Inner
