pub mod TraceOf
pub mod States
pub mod Shown
pub mod Laws
pub mod Plain
pub mod Repeated
pub mod Extension
