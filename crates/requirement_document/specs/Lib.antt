pub mod Keys
pub mod Substitution
pub mod Values
pub mod Entry
pub mod Document
pub mod Inner
pub mod Worked
