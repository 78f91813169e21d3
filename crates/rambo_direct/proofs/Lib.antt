pub mod Turns
mod Directs
