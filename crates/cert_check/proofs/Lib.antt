pub mod Narrowing
pub mod Refuting
pub mod Answers
pub mod Verifying
pub mod Closing
mod Among
mod Judging
mod Walking
