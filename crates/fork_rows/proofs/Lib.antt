mod Front
pub mod Kept
mod Opened
pub mod Grouped
