pub mod Infos
pub mod Images
pub mod Reading
