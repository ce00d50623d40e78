use Rattle.std.proofs.Common.{◌≡◌, ◌≤◌, ◌+◌, drop, None}
use Rattle.res_table.specs.Kinds.{expanded, kind_in, changes}
use Rattle.res_table.proofs.kinds.Kinds.count_types.Given as goal

-- the types so far and those of the other runs are all
abbrev pub invariant-loop-run : goal.invariant-loop-run
invariant-loop-run l = (l.count + changes (kind_in l.last) (expanded (drop l.run-index l.run-items)) ≡ changes None (expanded l.run-items)) × (l.count ≤ l.run-index)
