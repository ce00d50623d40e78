pub mod Counts
pub mod Refusing
pub mod Salvaging
pub mod Archived
pub mod Lined
