-- What the proofs of the functions cite, lines that are longer than every answer frame, and how many
-- signs a log makes.
pub mod Keeping
pub mod Long
pub mod Signs
