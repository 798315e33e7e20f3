mod Cutting
mod Unique
mod Decided
mod Grouped
mod Sound
