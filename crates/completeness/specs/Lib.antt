pub mod Reaching
pub mod Refuted
pub mod Trimmable
