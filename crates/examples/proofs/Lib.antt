-- The worked examples of docs/MANUAL.md hold.
pub mod Examples
