pub mod Happened
pub mod Open
pub mod Advances
