pub mod Fronts
pub mod Files
