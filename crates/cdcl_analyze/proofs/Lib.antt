mod Walk
mod Steps
mod Refuted
mod Bits
mod Outcomes
mod Places
pub mod Back
mod Growth
mod Minimal
mod Resting
mod Sameness
