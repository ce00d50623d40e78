pub mod Trace
pub mod Shown
