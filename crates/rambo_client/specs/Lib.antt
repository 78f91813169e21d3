pub mod Maps
pub mod Replies
pub mod Calls
pub mod Courses
pub mod Talks
pub mod Faults
