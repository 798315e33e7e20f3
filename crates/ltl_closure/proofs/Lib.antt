pub mod Lists
pub mod Entries
mod Made
pub mod Brought
pub mod Again
pub mod Places
pub mod Keyed
pub mod Sharing
pub mod Counted
pub mod SameKey
pub mod Entering
pub mod Plans
mod Laying
pub mod Walks
pub mod Steps
pub mod Grouping
pub mod Bounds
pub mod Known
pub mod Ranges
