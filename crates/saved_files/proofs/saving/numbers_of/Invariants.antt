use Rattle.std.proofs.Common.{◌≡◌, ◌++◌, map, drop}
use Rattle.saved_files.specs.Saved.{number_of}
use Rattle.saved_files.proofs.saving.numbers_of.Given as goal

-- the numbers so far, and those of the other files are all
abbrev pub invariant-loop-file : goal.invariant-loop-file
invariant-loop-file l = l.numbers.items ++ map number_of (drop l.file-index l.files) ≡ map number_of l.files
