pub mod Known
pub mod Devices
pub mod Maps
pub mod Images
pub mod Opening
pub mod Forks
