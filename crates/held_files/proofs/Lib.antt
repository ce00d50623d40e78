mod Words
pub mod Honest
pub mod Numbers
pub mod Seeking
mod Reading
mod Patching
mod AsSaved
pub mod Outside
