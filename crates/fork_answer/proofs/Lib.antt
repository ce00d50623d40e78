pub mod Grouping
pub mod Lining
pub mod Mending
mod InParts
pub mod Opened
