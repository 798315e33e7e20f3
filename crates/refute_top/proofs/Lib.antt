-- Lemmas on what is asked for, on what was read, on each promise, and on the answers that an output shows.
mod Showing
mod Promising
mod Asking
mod Leaving
mod Refuted
mod Checked
mod Verdicts
