pub mod Advances
pub mod Besides
pub mod Judged
pub mod LastNumbers
pub mod Late
pub mod Memory
pub mod Fitting
pub mod Readiness
pub mod QuietSteps
pub mod Outlines
pub mod FirstHalves
pub mod Means
mod Own
pub mod Telling
pub mod Short
