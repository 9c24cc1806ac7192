-- What the code computes is what the definition says, and the laws of the causes.
pub mod Coded
pub mod Laws
