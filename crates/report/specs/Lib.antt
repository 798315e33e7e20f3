pub mod Texts
pub mod Summary
pub mod Status
