mod Vectors
pub mod Steps
pub mod Counted
mod Entries
mod ReadBack
mod Front
mod ReadEntries
mod ReadData
mod ReadRows
pub mod Room
mod ReadAgain
pub mod Grouped
mod ReadWhole
pub mod Lengths
mod Sized
pub mod Plain
pub mod Lists
pub mod Faults
pub mod Limiting
pub mod Placing
pub mod Sharing
pub mod Distinct
pub mod Whole
pub mod Pieces
