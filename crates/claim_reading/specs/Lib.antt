pub mod Readable
pub mod Shown
pub mod Sizes
pub mod Stack
pub mod Never
pub mod Laws
pub mod Worked
