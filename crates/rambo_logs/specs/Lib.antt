pub mod NodeLogs
pub mod Stored
pub mod Numbers
pub mod Inside
pub mod Merged
