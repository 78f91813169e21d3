pub mod Kept
pub mod Mailing
pub mod OpenCalls
pub mod Readying
pub mod Records
pub mod Windows
pub mod Done
