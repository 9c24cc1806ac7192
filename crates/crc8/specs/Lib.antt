-- What a reader has to believe of the packet error code, and what is proved of it.
pub mod Crc8
pub mod Laws
pub mod Inner
