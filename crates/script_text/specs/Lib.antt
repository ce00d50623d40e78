pub mod Found
pub mod Tokens
pub mod Front
pub mod Names
pub mod Operands
pub mod Answers
pub mod Script
pub mod Reading
