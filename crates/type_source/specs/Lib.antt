pub mod Tokens
pub mod Spelling
pub mod Types
pub mod Place
