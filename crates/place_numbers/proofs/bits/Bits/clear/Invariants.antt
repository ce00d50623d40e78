use Rattle.std.proofs.Common.{◌-◌, ◌≤◌}
use Rattle.place_numbers.proofs.Cleared.{IsCleared}
use Rattle.place_numbers.proofs.bits.Bits.clear.Given as goal

abbrev pub invariant-loop-place : goal.invariant-loop-place
invariant-loop-place l = record {
  inside : (l.from ≤ l.place) × (l.place ≤ l.end);
  done : IsCleared l.fn.self l.self l.from l.place;
}

abbrev pub decreases-loop-place : goal.decreases-loop-place
decreases-loop-place l = l.end - l.place
