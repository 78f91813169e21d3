pub mod Queues
pub mod Waiting
