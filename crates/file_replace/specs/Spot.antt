-- Of which path a place is.
use Rattle.std.specs.Prelude.{ℕ, List, Option}
use Rattle.std.specs.declared.fs.File.{File}
use Rattle.host_paths.specs.declared.host.FolderOpen.{FolderOpen}
use Rattle.file_replace.specs.declared.host_place.There.{There}

-- the path of a place, what that has to have when a file is renamed to it, and its folder, if it is open, with the calls
-- by which it was opened
pub record Spot : Type 0 where
  pub path : List ℕ
  pub there : There
  pub folder : Option File
  pub begun : List FolderOpen
