pub mod Mending
pub mod Opening
pub mod Reaching
