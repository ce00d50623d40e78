-- Whether an opened file has a resource fork.
use Rattle.std.proofs.Common.{◌≡◌, ◌∙◌, ℕ, true, false, List, Ok, ap}
use Rattle.std.specs.Prelude.{is_some}
use Rattle.mac_files.specs.declared.old_file.OldFile.{OldFile}
use Rattle.mac_files.specs.OldFiles.{fork_of, fork_said, old_file, said_by}
use Rattle.mac_files.proofs.Alone.{no_fork, read, some_fork}
use Rattle.fork_answer.specs.declared.source.NoFork.TheVariants.{Absent}
use Rattle.fork_answer.specs.Source.{IsForkIn, IsNoForkIn}

pub has_fork : (file : List ℕ) (found : OldFile) → old_file file ≡ Ok (said_by found) → is_some (said_by found).resource_fork ≡ true → IsForkIn file (fork_of found)
has_fork file found is some = ap fork_said is ∙ ap read (some_fork (said_by found).resource_fork some)

pub has_none : (file : List ℕ) (found : OldFile) → old_file file ≡ Ok (said_by found) → is_some (said_by found).resource_fork ≡ false → IsNoForkIn file Absent
has_none file found is none = ap fork_said is ∙ ap read (no_fork (said_by found).resource_fork none)
