mod Readable
mod Ordering
mod Shown
mod Sizing
mod Counting
mod Works
mod Listed
mod Texts
pub mod Holding
