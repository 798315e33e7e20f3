pub mod Chosen
pub mod Text
pub mod Verified
pub mod Laws
