pub mod Happenings
pub mod Visits
