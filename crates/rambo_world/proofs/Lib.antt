mod Growth
mod Zipping
mod Logging
mod Stepping
mod Merging
mod Delivering
mod Turns
mod Changing
mod Alone
mod Advancing
mod Sendings
mod Deliveries
pub mod Longer
mod Starting
mod Reached
mod Single
mod Cutting
mod Meeting
pub mod Bare
mod Passing
mod Fitting
mod Lent
mod Quiet
mod Heard
mod Coming
