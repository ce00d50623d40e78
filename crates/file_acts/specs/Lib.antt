pub mod Statuses
pub mod Problems
pub mod Reading
pub mod Acts
pub mod Saved
