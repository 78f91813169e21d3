pub mod Leavings
pub mod Passes
