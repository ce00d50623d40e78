pub mod CallNames
pub mod Values
pub mod Places
mod Rows
pub mod Lengths
mod Replies
