use Rattle.std.proofs.Common.{◌≡◌, take}
use Rattle.res_table.specs.OpenFiles.{rows_changed}
use Rattle.res_files.specs.Updating.{rows_placed}
use Rattle.res_files.proofs.placing.place_rows.Given as goal

abbrev pub invariant-loop-index : goal.invariant-loop-index
invariant-loop-index l = l.chain ≡ rows_changed l.file (λ rows. rows_placed l.selection 0 rows (take l.index l.places)) l.initial.chain
