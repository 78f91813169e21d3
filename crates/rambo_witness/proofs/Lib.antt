pub mod Broken
pub mod Due
pub mod Fronts
pub mod Latest
pub mod Standing
pub mod Strangers
pub mod Times
pub mod Unique
