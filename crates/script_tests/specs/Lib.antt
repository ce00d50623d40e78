pub mod Files
pub mod Honest
