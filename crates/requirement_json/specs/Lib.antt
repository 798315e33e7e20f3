pub mod Answers
pub mod Because
pub mod Checks
pub mod Items
pub mod Laws
pub mod Letters
pub mod Whole
pub mod Worked
