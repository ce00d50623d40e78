use Rattle.std.proofs.Common.{◌≡◌, drop}
use Rattle.res_table.specs.AllFiles.{has_type}
use Rattle.res_table.proofs.all_files.has_type.Given as goal

-- the files that are left decide
abbrev pub invariant-loop-file : goal.invariant-loop-file
invariant-loop-file g l = has_type l.kind (drop l.file-index l.files) ≡ has_type l.kind l.files
