pub mod Journaled
pub mod Delivered
pub mod Bases
pub mod Touches
pub mod Stamped
pub mod Carried
pub mod Short
pub mod Alike
