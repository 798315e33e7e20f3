pub mod Grid
pub mod Letters
pub mod Names
pub mod Text
pub mod Diagram
