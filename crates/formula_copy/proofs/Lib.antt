pub mod Pushed
mod Sums
mod CopySteps
mod CopyLoop
