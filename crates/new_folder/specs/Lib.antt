pub mod Checked
pub mod NewFolder
pub mod Begun
