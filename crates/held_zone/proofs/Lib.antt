pub mod AsBefore
mod Ends
mod FewerFull
pub mod Filled
pub mod Guests
pub mod Headers
mod HostCodes
pub mod InTurns
pub mod Keeping
pub mod NilFlags
pub mod Lendable
pub mod LentAgain
pub mod Made
mod NextFull
pub mod Noted
pub mod SaveStates
pub mod Sleeping
mod Settled
mod There
pub mod Shown
pub mod Words
mod Written
