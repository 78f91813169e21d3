pub mod Incoming
pub mod Connections
pub mod Events
pub mod Laws
