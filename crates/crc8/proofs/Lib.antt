-- What the proofs of the functions cite, and the laws.
pub mod Xor
pub mod Linear
pub mod Codes
pub mod Fold
pub mod Back
pub mod Laws
pub mod Xored
pub mod Moved
pub mod Folding
pub mod FirstBlock
pub mod Quarters
