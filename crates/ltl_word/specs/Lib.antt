pub mod State
pub mod Trace
pub mod Claims
pub mod Holds
pub mod Depth
pub mod Propositional
pub mod Json
pub mod Laws
