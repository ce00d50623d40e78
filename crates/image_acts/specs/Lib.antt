pub mod Places
pub mod Here
pub mod Told
pub mod Shown
pub mod Words
