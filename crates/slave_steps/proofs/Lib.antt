-- The machine does what each call of src/i2c_slave.rs does.
pub mod Resets
pub mod Agrees
pub mod Bounds
pub mod Stepped
