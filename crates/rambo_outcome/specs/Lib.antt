pub mod Notes
pub mod Outcomes
