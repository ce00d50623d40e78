pub mod Shown
pub mod Articles
pub mod Pages
pub mod Laws
