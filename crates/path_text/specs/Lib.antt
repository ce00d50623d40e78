pub mod Harm
pub mod FileNames
pub mod ShellWords
pub mod Ways
pub mod Pieces
