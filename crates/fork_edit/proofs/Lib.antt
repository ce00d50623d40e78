mod Becoming
mod Comes
pub mod Entries
mod Lost
mod Refusing
mod PathNames
pub mod Alike
