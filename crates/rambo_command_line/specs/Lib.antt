pub mod Clashes
pub mod Lines
