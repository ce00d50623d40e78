use Rattle.std.proofs.Common.{◌-◌, ◌^◌}
use Rattle.held_zone.specs.KeptFlags.{KeepsTo}
use Rattle.held_zone.proofs.repairing.keep_flags.Given as goal

abbrev pub invariant-loop-from : goal.invariant-loop-from
invariant-loop-from l = KeepsTo l.initial.memory l.bytes l.waiting l.from l.memory

abbrev pub decreases-loop-from : goal.decreases-loop-from
decreases-loop-from l = 2 ^ 32 - l.from
