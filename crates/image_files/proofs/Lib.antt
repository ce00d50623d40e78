pub mod ForksRead
pub mod Reading
pub mod Missing
