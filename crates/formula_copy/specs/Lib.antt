pub mod Part
pub mod Copy
