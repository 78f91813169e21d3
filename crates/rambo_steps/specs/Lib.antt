pub mod Replays
pub mod Runs
