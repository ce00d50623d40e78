use Rattle.std.proofs.Common.{◌≡◌, ◌+◌, ◌≤◌, drop, filter, length, not}
use Rattle.res_table.specs.AllFiles.{has_type, new_types, types_in}
use Rattle.res_table.proofs.all_files.count_new_types.Given as goal

-- the types so far, and those that are left, are all
abbrev pub invariant-loop-index : goal.invariant-loop-index
invariant-loop-index g l = (l.count + length (filter (λ kind. not (has_type kind l.later)) (drop l.index (types_in l.rows))) ≡ length (new_types l.rows l.later)) × (l.count ≤ l.index)
