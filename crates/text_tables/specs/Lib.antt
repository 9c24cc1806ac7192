-- Texts, rows of tables and decimal numbers.
pub mod Ascii
pub mod Rows
pub mod Decimal
