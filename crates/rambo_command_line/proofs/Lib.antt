pub mod Asked
pub mod NoKinds
pub mod Passed
pub mod Served
pub mod Texts
