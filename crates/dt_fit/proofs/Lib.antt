mod WordBits
mod OpenPlaces
mod Undo
mod Counting
mod Cells
mod Shown
