-- What holds of a transfer as words.
pub mod Cells
pub mod Kept
