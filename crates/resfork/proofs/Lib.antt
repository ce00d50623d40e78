pub mod Ended
mod Reading
