pub mod Cells
pub mod Rows
pub mod Spans
pub mod Truth
pub mod Neighbours
pub mod Following
pub mod Extent
pub mod Windows
