use Rattle.std.proofs.Common.{◌≡◌, ◌≤◌, length, drop, false}
use Rattle.res_table.specs.Kinds.{expanded, has_kind}
use Rattle.res_table.proofs.kinds.last_run.Given as goal

-- none of the type is from here on
abbrev pub invariant-loop-index : goal.invariant-loop-index
invariant-loop-index l = (l.index ≤ length l.runs) × (has_kind l.kind (expanded (drop l.index l.runs)) ≡ false)

abbrev pub decreases-loop-index : goal.decreases-loop-index
decreases-loop-index l = l.index
