pub mod Asked
pub mod Naming
pub mod Left
pub mod Made
pub mod Following
pub mod Identified
