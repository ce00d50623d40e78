pub mod Forms
pub mod Sights
pub mod Unpacking
