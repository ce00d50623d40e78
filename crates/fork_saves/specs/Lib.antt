pub mod Saving
pub mod Putting
pub mod Changing
pub mod Order
pub mod Converting
pub mod Lasting
