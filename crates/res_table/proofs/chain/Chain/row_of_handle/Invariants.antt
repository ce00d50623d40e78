use Rattle.std.proofs.Common.{◌≡◌, drop}
use Rattle.res_table.specs.Rows.{has_handle}
use Rattle.res_table.specs.OpenFiles.{earliest_place}
use Rattle.res_table.proofs.chain.Chain.row_of_handle.Given as goal

-- the place is in the files that are left
abbrev pub invariant-loop-file : goal.invariant-loop-file
invariant-loop-file g l = earliest_place (has_handle l.handle) (drop l.file-index l.file-items) ≡ earliest_place (has_handle l.fn.handle) l.file-items
