-- The reasons of a word and of every call.
--     Twins        two behaviours that differ in the reason for an abort alone, and what they leave
--     TwinParts    the driver's functions are such, with any two reasons
--     Beside       the theorems
pub mod Twins
pub mod TwinParts
pub mod Beside
