pub mod Watching
pub mod Turned
pub mod Heads
pub mod Watchers
pub mod Pool
