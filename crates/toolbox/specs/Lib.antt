pub mod Acts
pub mod Tools
pub mod Forks
pub mod ToolState
pub mod Steps
pub mod Headline
pub mod Recovery
