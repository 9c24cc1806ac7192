-- The calls as requests.
pub mod Requests
pub mod Inner
