pub mod Calls
pub mod Hearing
pub mod Kept
