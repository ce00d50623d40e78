pub mod Entered
pub mod ForkRanges
pub mod Found
pub mod MoreExtents
