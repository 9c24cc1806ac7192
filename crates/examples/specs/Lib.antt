-- The worked examples of docs/MANUAL.md as rows.
pub mod Rows
