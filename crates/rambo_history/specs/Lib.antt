pub mod Calls
pub mod Faults
pub mod Forms
pub mod Histories
pub mod HistoryStates
pub mod Looks
pub mod Places
pub mod Proper
