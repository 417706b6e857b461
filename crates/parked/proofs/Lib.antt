pub mod Counts
pub mod HandedOn
pub mod PhaseLaws
