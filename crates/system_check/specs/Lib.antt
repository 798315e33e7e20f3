pub mod TwoStates
pub mod System
pub mod Formulas
pub mod Joining
pub mod Answer
pub mod Laws
