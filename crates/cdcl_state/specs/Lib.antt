pub mod StateValue
pub mod Turns
pub mod State
pub mod Gathered
pub mod Named
