-- What holds of the access at words.
pub mod Stored
