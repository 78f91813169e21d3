pub mod Tags
pub mod Copies
pub mod Logs
pub mod Merging
pub mod Stamps
pub mod Changes
pub mod Rows
