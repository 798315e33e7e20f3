pub mod Parts
pub mod Reading
pub mod Taking
pub mod Claims
pub mod Inner
