pub mod Listed
pub mod Boxed
