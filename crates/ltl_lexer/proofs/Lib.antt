pub mod Cuts
pub mod Words
pub mod OneList
pub mod SomeList
pub mod Places
mod Numbers
pub mod Bounded
mod Fronts
mod Signs
mod Cursors
