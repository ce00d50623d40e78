use Rattle.std.proofs.Common.{◌≡◌, drop, None}
use Rattle.res_table.specs.Kinds.{are_types}
use Rattle.res_table.proofs.kinds.are_types.Given as goal

-- the runs are types where those that are left are
abbrev pub invariant-loop-run : goal.invariant-loop-run
invariant-loop-run l = are_types l.last (drop l.run-index l.runs) ≡ are_types None l.runs
