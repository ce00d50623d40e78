-- The resource fork in a file.
use Rattle.std.specs.Prelude.{◌≡◌, ℕ, List, None, Some, Ok}
use Rattle.mac_files.specs.Kinds.{kind_of}
use Rattle.mac_files.specs.OldFiles.{IsUnopened, fork_said, old_file}
use Rattle.fork_answer.specs.declared.source.NoFork.{NoFork}
use Rattle.fork_answer.specs.declared.source.NoFork.TheVariants.{Absent, File}

-- the file is read, and this is the resource fork in it
abbrev pub IsForkIn : List ℕ → List ℕ → Type 0
IsForkIn file fork = fork_said (old_file file) ≡ Ok (Some fork)

-- why there is none: the file isn't opened, or it has none
abbrev pub IsNoForkIn : List ℕ → NoFork → Type 0
IsNoForkIn file (File fault) = IsUnopened (kind_of file) file fault
IsNoForkIn file Absent = fork_said (old_file file) ≡ Ok None
