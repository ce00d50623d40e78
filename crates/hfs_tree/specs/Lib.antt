pub mod Extents
pub mod Leaves
pub mod Reads
pub mod Rows
