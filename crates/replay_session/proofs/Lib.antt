-- What the proofs of the functions cite, and that the bounded session prints what Session says.
pub mod Forms
pub mod Over
pub mod Bound
pub mod Keeps
pub mod Enters
