mod Standing
mod Gathered
mod Changing
mod Told
mod Same
mod Applied
mod Tables
mod Free
pub mod Indexed
pub mod Known
