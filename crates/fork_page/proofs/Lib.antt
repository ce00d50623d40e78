pub mod Rows
pub mod Tags
