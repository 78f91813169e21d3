pub mod Administration
pub mod Laws
pub mod Mistakes
pub mod Replies
pub mod Reports
pub mod Requests
