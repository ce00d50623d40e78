pub mod Firsts
pub mod Listed
pub mod Upwards
pub mod Texts
pub mod Places
