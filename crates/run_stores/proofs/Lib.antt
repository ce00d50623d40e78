pub mod Opening
mod Refusing
