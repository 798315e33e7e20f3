mod Evenly
mod Rows
mod Stands
mod States
mod Sizing
mod Linked
mod Picks
pub mod Gates
mod Links
mod Runs
mod Pairs
mod Strong
mod Prunes
mod Listing
mod PairParts
mod Sampling
mod Filling
