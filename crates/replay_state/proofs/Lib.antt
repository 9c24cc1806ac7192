-- What the proofs of the functions cite.
pub mod Lines
pub mod Long
pub mod Steps
pub mod Feeds
pub mod EverySplit
