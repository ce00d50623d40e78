pub mod Memory
pub mod Zone
pub mod Head
pub mod Blocks
pub mod Free
pub mod Look
pub mod Laws
