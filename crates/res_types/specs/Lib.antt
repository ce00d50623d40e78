pub mod Bits
pub mod Texts
pub mod Reading
pub mod Writing
pub mod Meaning
