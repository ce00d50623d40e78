pub mod Rows
pub mod Fork
pub mod Written
pub mod Laws
pub mod Sizes
pub mod Reading
pub mod Over
