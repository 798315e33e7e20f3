mod Lines
mod Putting
mod Listing
mod Negated
mod Earlier
mod Asking
mod Looked
mod Rejections
mod Grown
mod Agreeing
mod Reading
mod LetterEntries
mod Rooms
mod Spelled
mod Verdicts
mod Searching
pub mod There
