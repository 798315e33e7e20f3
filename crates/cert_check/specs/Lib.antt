pub mod Lawful
pub mod Answer
pub mod Walk
pub mod Trimmed
