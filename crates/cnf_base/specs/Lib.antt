pub mod Literal
pub mod Known
pub mod Step
pub mod Among
pub mod Meaning
pub mod Worked
pub mod RowPieces
