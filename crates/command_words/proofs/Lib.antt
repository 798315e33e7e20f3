pub mod OneCommand
mod Numbers
mod Saying
mod Walking
mod Matched
mod Telling
mod Asking
mod Refuting
mod Decided
