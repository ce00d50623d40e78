pub mod Changes
pub mod Convert
pub mod Edits
pub mod Extras
pub mod Faults
pub mod Files
pub mod PathNames
pub mod Replaced
