-- Lemmas on axioms, residues, lifted and lowered traces.
mod Waiting
mod Rows
mod AxiomRows
mod Written
mod ShownNames
mod LiftedStates
mod Sourced
mod Others
mod Whole
mod Trees
mod Bounds
mod Counted
mod Prefixes
mod Built
mod Coming
mod Operators
mod ResidueRows
mod Ranges
pub mod Axioms
pub mod Residues
mod Shapes
mod Telling
mod StatesWith
mod Shallow
mod Raising
mod Lifted
mod Future
mod Few
mod Numbering
