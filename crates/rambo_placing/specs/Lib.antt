pub mod Laws
pub mod Placings
pub mod Tables
pub mod Values
