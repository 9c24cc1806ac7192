-- The machine does what `respond_to_read` and the calls above it do.
pub mod Responds
