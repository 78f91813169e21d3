pub mod CallPlaces
pub mod Groups
pub mod Laws
pub mod Marks
pub mod Orders
pub mod RankedCalls
pub mod Sequences
pub mod StoreOrders
