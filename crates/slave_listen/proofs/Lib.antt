-- The machine does what `listen` does.
pub mod Listens
