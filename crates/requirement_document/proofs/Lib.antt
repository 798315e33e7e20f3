-- Lemmas on what TOML has at a key, on names, on definitions put in, and on the order of a document.
pub mod Looking
pub mod Naming
pub mod Finding
pub mod Moving
pub mod Listing
pub mod Refusing
pub mod Judging
pub mod Stating
pub mod Good
pub mod Excluding
mod Determined
pub mod Examples
