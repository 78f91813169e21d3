pub mod Collections
pub mod Turns
pub mod CollectionLaws
