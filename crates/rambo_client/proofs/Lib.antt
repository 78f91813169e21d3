pub mod Latest
pub mod Orders
pub mod Right
pub mod Beginnings
pub mod Gains
pub mod Pieces
pub mod Fronts
