pub mod Disks
pub mod Opening
pub mod Claiming
pub mod Refusing
pub mod Stores
