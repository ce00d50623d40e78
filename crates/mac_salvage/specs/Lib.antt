pub mod Texts
pub mod Places
pub mod InSpite
pub mod Laws
