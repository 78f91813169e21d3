pub mod Gossips
pub mod Kinds
pub mod Letters
pub mod Outlines
pub mod Short
