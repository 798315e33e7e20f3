pub mod Between
pub mod Certificate
pub mod Lawful
pub mod Sequences
pub mod Laws
pub mod Worked
