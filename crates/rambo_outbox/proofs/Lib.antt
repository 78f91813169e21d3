pub mod Lists
pub mod FoundLists
pub mod Sizes
pub mod LooksAgain
pub mod HeldBack
pub mod Reached
pub mod Few
pub mod InTurn
