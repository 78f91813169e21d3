pub mod Picks
pub mod Turned
pub mod Told
