pub mod Iff
pub mod Two
pub mod Paths
pub mod Sizes
pub mod AnswerLaws
mod Joinings
mod Connecting
