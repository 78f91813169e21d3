pub mod Phases
pub mod Counting
pub mod PhaseLaws
