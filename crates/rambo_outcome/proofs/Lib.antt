pub mod Loops
pub mod ByPieces
pub mod Telling
pub mod Weaving
