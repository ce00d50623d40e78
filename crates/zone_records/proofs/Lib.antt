mod ReadWord
pub mod ReadSlots
mod Meaning
mod Comparing
mod SaidSlots
pub mod Words
pub mod Apart
mod Held
mod Ranked
pub mod Looking
mod FirstFree
mod Headers
mod Holding
mod Slots
pub mod MasterBlocks
mod Between
mod ShownBlocks
mod Structures
mod Writing
mod Sleeping
mod Kept
mod FaultWords
mod WrongBytes
mod FaultFronts
mod Changed
mod Blocks
mod Adopted
mod ZoneSlots
pub mod FreeWalk
mod Listed
mod Linked
mod RightBlocks
mod SaidPlaces
mod Paired
mod Placing
mod Neighbours
mod Freeing
mod Fitting
mod Fitted
mod Growing
mod Turning
mod Carrying
mod Flagging
pub mod Lending
mod Copied
pub mod Chaining
pub mod Extending
pub mod OwnBytes
mod Touched
mod OwnSame
mod TouchedBlocks
