-- Frames as text: what the reader and the printer are held to.
pub mod Text
pub mod Print
pub mod Appended
pub mod Added
pub mod Pairs
