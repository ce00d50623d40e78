pub mod Texts
pub mod Reader
