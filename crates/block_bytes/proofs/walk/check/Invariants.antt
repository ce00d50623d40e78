use Rattle.std.proofs.Common.{◌-◌, ◌≤◌, ◌↔◌}
use Rattle.block_bytes.specs.Walk.{WalksFrom, Walks}
use Rattle.block_bytes.proofs.walk.check.Given as goal

abbrev pub invariant-loop-at : goal.invariant-loop-at
invariant-loop-at l = record {
  -- the bytes haven't ended before
  low : l.at ≤ l.end;
  -- what is left decides
  left : Walks l.heads l.image ↔ WalksFrom l.heads l.image l.at;
}

abbrev pub decreases-loop-at : goal.decreases-loop-at
decreases-loop-at l = l.end - l.at
