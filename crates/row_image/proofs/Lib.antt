pub mod Told
pub mod Faults
pub mod Images
pub mod Restored
