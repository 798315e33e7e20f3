-- Lemmas on formulas that do not look ahead, on kept values and on the parts of a monitor.
mod Rings
mod Prefix
mod Values
mod Trees
mod Parts
mod Placing
mod Runs
mod Lines
mod Watching
mod OneState
mod OneAnswer
