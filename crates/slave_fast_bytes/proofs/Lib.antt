-- Bursts of the slave, step by step.
pub mod Draining
pub mod Polling
pub mod Sending
