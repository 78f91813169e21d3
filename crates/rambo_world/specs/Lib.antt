pub mod Kept
pub mod Pairs
pub mod Lending
pub mod Hearing
pub mod Logging
pub mod Worlds
pub mod Deliveries
pub mod Direct
