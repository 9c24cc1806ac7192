-- A bus sequence as a picture.
pub mod Texts
pub mod Picture
