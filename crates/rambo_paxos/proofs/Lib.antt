pub mod OnePlace
pub mod Rows
