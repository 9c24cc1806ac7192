-- Clock setup: the Rust's `set_config`, what the documents ask of its counts, the table of refusals, and the rate of the bus.
pub mod SetConfig
pub mod Datasheet
pub mod Table
pub mod BusRate
