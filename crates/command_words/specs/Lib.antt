pub mod Table
pub mod Words
pub mod Asked
pub mod Refutation
pub mod Usage
pub mod Said
pub mod Matching
