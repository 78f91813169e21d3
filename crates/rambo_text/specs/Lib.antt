pub mod Digits
pub mod Faults
pub mod Forms
pub mod Lanes
pub mod Signs
pub mod Words
pub mod Versions
