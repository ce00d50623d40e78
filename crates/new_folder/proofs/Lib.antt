pub mod NewFolders
