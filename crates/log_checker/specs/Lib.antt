pub mod Values
pub mod Judging
pub mod Kept
pub mod Pieces
pub mod Laws
pub mod Shorts
