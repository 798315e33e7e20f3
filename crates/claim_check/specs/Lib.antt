pub mod Pieces
pub mod Data
pub mod Bases
pub mod Reasons
pub mod Laws
