pub mod InPlaces
pub mod Orders
pub mod Told
pub mod Written
