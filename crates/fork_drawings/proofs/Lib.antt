pub mod Steps
pub mod Painted
pub mod Placed
pub mod Brushed
pub mod Pointed
pub mod Framed
pub mod Whole
pub mod Worked
