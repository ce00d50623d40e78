mod Grouped
mod Parts
mod Pieces
