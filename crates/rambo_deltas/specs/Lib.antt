pub mod Alike
pub mod Bases
pub mod Deltas
