-- Which lines are kept, what they are good for, and how lines are marked.
pub mod Keeping
pub mod MarkedLines
pub mod Marks
pub mod Steps
