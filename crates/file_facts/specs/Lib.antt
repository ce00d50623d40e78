pub mod Dates
pub mod Flags
