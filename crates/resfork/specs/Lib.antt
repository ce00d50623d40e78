pub mod Faults
pub mod Running
pub mod Ends
