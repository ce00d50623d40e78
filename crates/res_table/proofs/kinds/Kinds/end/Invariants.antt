use Rattle.std.proofs.Common.{◌≡◌, ◌+◌, length, drop}
use Rattle.res_table.specs.Kinds.{expanded, end_of}
use Rattle.res_table.proofs.kinds.Kinds.end.Given as goal

-- the search goes on after the runs so far
abbrev pub invariant-loop-run : goal.invariant-loop-run
invariant-loop-run l = (end_of l.kind l.end l.at (expanded (drop l.run-index l.run-items)) ≡ end_of l.kind l.none 0 (expanded l.run-items))
    × (l.at + length (expanded (drop l.run-index l.run-items)) ≡ length (expanded l.run-items))
