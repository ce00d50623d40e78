pub mod Crash
pub mod Honest
pub mod Passing
