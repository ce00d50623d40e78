use Rattle.std.proofs.Common.{◌-◌, ◌^◌, ◌≤◌}
use Rattle.held_zone.specs.NilFlags.{IsClearedTo}
use Rattle.held_zone.proofs.nil_flags.clear.Given as goal

abbrev pub invariant-loop-at : goal.invariant-loop-at
invariant-loop-at l = (l.zone.shape.base ≤ l.from) × IsClearedTo l.zone l.initial.bytes l.from l.bytes

abbrev pub decreases-loop-at : goal.decreases-loop-at
decreases-loop-at l = 2 ^ 32 - l.from
