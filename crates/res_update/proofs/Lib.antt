pub mod Answering
pub mod Seeking
mod Running
mod Worked
pub mod PlaceBytes
pub mod Selecting
pub mod Saving
pub mod Shaping
pub mod Placing
pub mod Measuring
pub mod Counting
pub mod Listing
pub mod ReadAgain
mod Replacing
