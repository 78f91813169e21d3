pub mod Held
pub mod GoingOn
pub mod Untaken
