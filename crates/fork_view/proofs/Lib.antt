pub mod Stopping
pub mod Reasons
pub mod Saying
