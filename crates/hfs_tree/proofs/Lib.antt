pub mod Good
pub mod Learned
pub mod LeavesRead
pub mod Places
pub mod RowsRead
