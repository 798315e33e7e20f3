pub mod Lines
pub mod Outcomes
pub mod Texts
pub mod Grouping
pub mod Laws
