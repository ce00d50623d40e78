pub mod Reading
pub mod Shapes
pub mod Maps
pub mod Planes
pub mod Operands
pub mod Sequence
