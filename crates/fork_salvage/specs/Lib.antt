pub mod Salvage
pub mod Plans
pub mod Fault
pub mod Faults
pub mod Laws
