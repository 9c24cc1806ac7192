-- What each word put on the bus, beside the word.
pub mod Piece
pub mod Inner
