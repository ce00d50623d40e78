pub mod Entered
pub mod Chained
pub mod Found
