-- The causes of an abort, and what holds of them.
pub mod Causes
pub mod Laws
