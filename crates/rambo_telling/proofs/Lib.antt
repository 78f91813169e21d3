mod Told
pub mod Untouched
