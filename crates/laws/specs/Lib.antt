-- What holds of every public call: the calls of the three drivers as one type, what each leaves as it was, and why it is
-- turned down before its first access.
pub mod Calls
pub mod Left
pub mod Causes
