mod Files
pub mod Quiet
mod Statuses
mod Written
