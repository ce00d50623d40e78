use Rattle.std.proofs.Common.{◌-◌, ◌≤◌}
use Rattle.held_zone.specs.NilFlags.{NoneBetween}
use Rattle.held_zone.proofs.nil_flags.next_nil_flags.Given as goal

abbrev pub invariant-loop-at : goal.invariant-loop-at
invariant-loop-at l = (l.from ≤ l.at) × NoneBetween l.zone l.bytes l.from l.at

abbrev pub decreases-loop-at : goal.decreases-loop-at
decreases-loop-at l = l.end - l.at
