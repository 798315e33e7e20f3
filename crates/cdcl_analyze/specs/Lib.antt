pub mod Graph
pub mod Marks
pub mod Reason
pub mod Waiting
pub mod Learnt
pub mod Analysis
pub mod Consequences
