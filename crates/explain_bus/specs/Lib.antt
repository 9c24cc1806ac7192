-- The bus line of a transfer.
pub mod Line
pub mod Inner
