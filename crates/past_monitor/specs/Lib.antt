pub mod Past
pub mod Kept
pub mod Monitor
pub mod Line
pub mod Text
pub mod Laws
pub mod Ring
pub mod Part
