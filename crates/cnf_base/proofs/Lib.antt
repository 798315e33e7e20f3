pub mod SameLiteral
pub mod MoreClauses
pub mod Soundness
pub mod Deciding
pub mod RowLemmas
pub mod Lengthened
mod RowTiles
mod RowEnds
pub mod Among
