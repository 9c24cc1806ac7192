-- This driver's reasons for an abort beside the Rust's.
pub mod Reasons
