pub mod Cutting
pub mod Unseparated
pub mod Refusing
pub mod OneText
pub mod TwoParts
pub mod SomeParts
pub mod Leaving
