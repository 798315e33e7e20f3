pub mod Count
pub mod Outside
pub mod Memory
pub mod Adapted
