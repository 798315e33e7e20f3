pub mod Values
pub mod Trail
pub mod Assigned
pub mod Entries
