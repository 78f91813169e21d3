pub mod Rows
pub mod Maps
pub mod Merging
pub mod MapLaws
