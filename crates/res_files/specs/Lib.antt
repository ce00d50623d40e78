pub mod FilesOn
pub mod Crash
pub mod Opening
pub mod Handles
pub mod Standing
pub mod Updating
pub mod Stores
