pub mod Pieces
pub mod RunAlong
