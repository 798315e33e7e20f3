-- Which occurrences are kept, walks over them, and cores. Then what code does: tasks, marks, decisions, groups and passes.
pub mod Kept
pub mod Walks
pub mod Cores
pub mod Tabled
pub mod Limits
pub mod There
pub mod Members
pub mod Tasks
pub mod Marks
pub mod Deciding
pub mod Rounds
