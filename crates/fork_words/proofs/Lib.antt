pub mod Naming
pub mod Places
pub mod Endings
pub mod Colons
