pub mod Letters
pub mod Paths
pub mod Things
