pub mod Addresses
pub mod Saved
pub mod Sound
pub mod Parts
