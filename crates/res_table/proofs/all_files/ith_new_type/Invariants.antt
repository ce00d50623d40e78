use Rattle.std.proofs.Common.{◌≡◌, drop, filter, not}
use Rattle.res_table.specs.AllFiles.{has_type, new_types, types_in}
use Rattle.res_table.specs.Rows.{ith}
use Rattle.res_table.proofs.all_files.ith_new_type.Given as goal

-- the type is among those that are left, by what is left of the index
abbrev pub invariant-loop-index : goal.invariant-loop-index
invariant-loop-index g l = ith l.left (filter (λ kind. not (has_type kind l.later)) (drop l.index (types_in l.rows))) ≡ ith l.fn.i (new_types l.rows l.later)
