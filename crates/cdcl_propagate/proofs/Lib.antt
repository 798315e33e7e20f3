mod Guard
mod At
pub mod Ready
mod LastingVisit
mod Faced
mod Alone
pub mod Lasting
pub mod Settled
