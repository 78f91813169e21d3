pub mod Ahead
pub mod Taking
pub mod Standing
pub mod Stories
