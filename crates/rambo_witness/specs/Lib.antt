pub mod Dues
pub mod LastMade
pub mod LatestSets
pub mod Laws
pub mod Tests
pub mod Witnesses
