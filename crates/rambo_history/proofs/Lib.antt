pub mod AnsweredBefore
pub mod Asked
pub mod LookUps
pub mod Pushes
pub mod Splits
