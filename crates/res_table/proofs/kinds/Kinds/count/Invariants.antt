use Rattle.std.proofs.Common.{◌≡◌, ◌+◌, drop}
use Rattle.res_table.specs.Kinds.{expanded, count_of}
use Rattle.res_table.proofs.kinds.Kinds.count.Given as goal

-- those so far and those of the other runs are all
abbrev pub invariant-loop-run : goal.invariant-loop-run
invariant-loop-run l = l.count + count_of l.kind (expanded (drop l.run-index l.run-items)) ≡ count_of l.kind (expanded l.run-items)
