pub mod Rows
pub mod Copies
pub mod Differences
pub mod Index
pub mod Laws
