-- Lemmas on rows of cells, on the letters that occur, and on texts that are put together piece by piece.
mod Cells
mod Occurring
mod Pieces
mod Drawing
mod Lanes
