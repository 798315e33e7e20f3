-- Lemmas on texts that grow piece by piece, on pictures, and on the marks of a page.
mod Pieces
mod Suspects
mod Drawn
mod Harmless
mod Marked
