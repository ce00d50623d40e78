pub mod HostTexts
pub mod Reading
