pub mod Info
pub mod Directory
pub mod Chain
pub mod Volume
