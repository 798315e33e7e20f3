mod Told
pub mod Bridge
pub mod Standing
pub mod Assign
mod Places
pub mod Bound
pub mod Levels
pub mod Weight
pub mod Measure
