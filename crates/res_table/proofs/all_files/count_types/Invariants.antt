use Rattle.std.proofs.Common.{◌≡◌, ◌+◌, drop, length}
use Rattle.res_table.specs.AllFiles.{all_types}
use Rattle.res_table.proofs.all_files.count_types.Given as goal

-- the types so far, and those of the files that are left, are all
abbrev pub invariant-loop-index : goal.invariant-loop-index
invariant-loop-index g l = l.count + length (all_types (drop l.index l.files)) ≡ length (all_types l.files)
