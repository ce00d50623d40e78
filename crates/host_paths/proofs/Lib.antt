pub mod Between
pub mod Sweeping
mod Failing
