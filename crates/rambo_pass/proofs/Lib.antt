pub mod Acts
mod Closes
pub mod Taken
pub mod Found
pub mod Told
pub mod Halves
