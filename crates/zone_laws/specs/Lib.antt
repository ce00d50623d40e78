pub mod Act
pub mod LastPut
pub mod LastSet
pub mod Course
pub mod Headline
pub mod Contents
pub mod Brought
pub mod MadeAgain
