pub mod Kept
pub mod Marking
pub mod Laws
pub mod Examples
pub mod Trimmed
