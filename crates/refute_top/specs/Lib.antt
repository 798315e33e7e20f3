pub mod Texts
pub mod Answer
pub mod Refuting
pub mod Checking
pub mod Taking
pub mod Run
pub mod Inner
