use Rattle.std.proofs.Common.{ℕ, ◌<◌, ◌≤◌}
use Rattle.zone_records.specs.Masters.{IsSame}
use Rattle.zone_records.proofs.masters.changed_index.Given as goal

abbrev pub invariant-loop-index : goal.invariant-loop-index
invariant-loop-index l = (k : ℕ) → l.from ≤ k → k < l.index → IsSame l.fn.heads l.bytes l.start l.ours k
