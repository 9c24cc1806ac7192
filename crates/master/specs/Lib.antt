-- src/i2c.rs as programs, and what two of its transfers make of the bus.
pub mod Driver
pub mod Blocking
pub mod Async
pub mod Operations
pub mod Transfer
pub mod Sequence
pub mod Coded
pub mod Calls
pub mod Demand3
pub mod CodedLaws
pub mod Buffer
pub mod Inner
