-- What is printed for a line of the replay's answers.
pub mod Tables
pub mod Begins
pub mod Texts
