pub mod Trees
pub mod Sizes
mod Tables
mod NameSearch
mod Works
pub mod Roots
pub mod Members
pub mod Places
pub mod Orders
pub mod Distinct
pub mod Overwriting
mod Pending
mod Cutting
mod Marking
pub mod Few
mod NoFresh
pub mod Under
