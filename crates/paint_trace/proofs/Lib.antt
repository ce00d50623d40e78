pub mod LockedBlocks
pub mod LockedSteps
