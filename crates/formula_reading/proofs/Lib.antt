pub mod OneReading
mod ManyNodes
