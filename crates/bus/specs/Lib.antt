-- The bus: what a log makes of it.
pub mod Bus
pub mod Placed
