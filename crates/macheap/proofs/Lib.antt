pub mod Ending
pub mod Found
pub mod Saying
mod Restarting
