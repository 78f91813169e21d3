pub mod Shapes
pub mod Asked
pub mod OneRequest
