pub mod Places
pub mod Steps
pub mod Lengths
pub mod Rasters
pub mod Enlarged
pub mod ReadBack
