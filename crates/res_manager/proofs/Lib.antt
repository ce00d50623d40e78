pub mod Known
pub mod CalmCalls
pub mod Changing
pub mod ClosingFiles
pub mod Crash
pub mod Filling
pub mod Forgetting
pub mod GettingCalls
pub mod Granting
pub mod Handles
pub mod Lent
pub mod Noting
pub mod OpenedFiles
pub mod Placing
pub mod ReadingBack
pub mod Refusals
pub mod RowUpdates
pub mod States
pub mod SoughtRows
pub mod Stepping
pub mod UpdatingCalls
pub mod WritingFiles
pub mod GettingRows
mod Keeping
mod LeavingForks
mod OnlyRead
pub mod PatchedBytes
pub mod PatchedRows
pub mod PatchingCalls
pub mod PatchedCalls
pub mod PatchedSteps
pub mod PatchedFiles
mod Faults
