pub mod Faults
pub mod Outputs
pub mod Pages
pub mod Salvages
pub mod Written
