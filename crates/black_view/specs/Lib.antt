pub mod Words
pub mod Asked
pub mod Input
pub mod Status
pub mod Output
pub mod View
