-- Lemmas on claims: searching, dualities, agreement, expansion, repetition. Then what they give for formulas on a trace.
pub mod Search
pub mod Duality
pub mod Agreement
pub mod Expansion
pub mod Repeats
pub mod Reached
pub mod Steps
pub mod Periodicity
pub mod Decided
mod Propositional
mod Written
mod Prefixes
pub mod Forms
pub mod Sets
pub mod Parts
mod OneReading
mod SomeReading
mod Lookup
