-- Hints under new names, clauses by their names in a list, and lines that are steps over a list.
pub mod Renaming
pub mod Names
pub mod Lines
