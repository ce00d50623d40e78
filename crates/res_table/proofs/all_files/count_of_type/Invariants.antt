use Rattle.std.proofs.Common.{◌≡◌, ◌+◌, drop}
use Rattle.res_table.specs.AllFiles.{all_rows}
use Rattle.res_table.specs.Rows.{count_of_type}
use Rattle.res_table.proofs.all_files.count_of_type.Given as goal

-- the resources so far, and those of the files that are left, are all
abbrev pub invariant-loop-file : goal.invariant-loop-file
invariant-loop-file g l = l.count + count_of_type l.kind (all_rows (drop l.file-index l.files)) ≡ count_of_type l.kind (all_rows l.files)
