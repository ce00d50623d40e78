pub mod Salvaged
pub mod Lines
pub mod Warnings
pub mod Answer
pub mod InParts
pub mod Mended
pub mod Source
