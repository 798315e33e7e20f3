pub mod Choice
pub mod Solving
pub mod SolverValue
