pub mod Core
pub mod Testing
pub mod Laws
