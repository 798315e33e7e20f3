pub mod Text
pub mod Scan
pub mod Stored
pub mod Laws
pub mod Worked
