pub mod Options
pub mod Asking
pub mod Reading
pub mod Shown
pub mod Writing
pub mod Looking
