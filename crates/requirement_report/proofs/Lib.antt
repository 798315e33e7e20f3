-- Lemmas on names in order, on pictures, on walks and sets of letters, on letters that differ, on texts that grow, on loops, and on what can be shown.
mod Apart
mod Ascending
mod Differing
pub mod Gridded
pub mod Loops
mod Pieces
mod Showable
mod Slipped
mod Stacks
mod Using
