pub mod Saved
pub mod Lasting
pub mod Steps
