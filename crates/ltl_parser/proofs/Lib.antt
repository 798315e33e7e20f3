pub mod Unique
pub mod Exists
pub mod Readings
pub mod Printing
mod Parts
mod Holding
mod Building
mod Stepping
mod Running
mod Faults
mod Examples
