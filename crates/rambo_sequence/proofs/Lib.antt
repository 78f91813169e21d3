mod Ascents
pub mod GivenOrder
mod GroupLists
mod KeyLists
pub mod Members
pub mod MergedOrder
mod NotedCalls
mod OneList
mod OneOrder
mod OneOrderAlone
pub mod Outcomes
pub mod PlacedMarks
mod RankedLists
mod WeakOrders
