pub mod Holding
pub mod Places
pub mod Parts
pub mod Queued
pub mod Steps
