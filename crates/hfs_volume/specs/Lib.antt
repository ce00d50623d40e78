pub mod Names
pub mod Entries
pub mod Overflow
pub mod Volume
pub mod Opening
pub mod Forks
