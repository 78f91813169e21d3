pub mod Endings
pub mod Files
pub mod Servers
pub mod Statuses
