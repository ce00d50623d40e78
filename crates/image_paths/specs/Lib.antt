pub mod Names
pub mod Paths
pub mod Shown
pub mod HostNames
