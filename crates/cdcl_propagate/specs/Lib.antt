pub mod Visit
pub mod Lasting
pub mod Units
