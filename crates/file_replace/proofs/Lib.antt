pub mod Along
pub mod Leaving
pub mod Keeping
mod Opening
