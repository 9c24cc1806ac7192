-- What every public call leaves as it was, and why it is turned down before its first access.
pub mod Left
pub mod Causes
