-- The slave driver as src/i2c_slave.rs has it.
pub mod I2cSlave
pub mod Counts
pub mod Calls
