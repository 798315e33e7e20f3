pub mod Hinted
pub mod Places
pub mod Sound
pub mod Complete
pub mod Viable
pub mod Faults
