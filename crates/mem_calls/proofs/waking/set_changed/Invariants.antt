use Rattle.std.proofs.Common.{◌-◌, ◌^◌}
use Rattle.mem_calls.specs.Waking.{HasFlagsTo}
use Rattle.mem_calls.proofs.waking.set_changed.Given as goal

abbrev pub invariant-loop-handle : goal.invariant-loop-handle
invariant-loop-handle l = HasFlagsTo l.initial.zone l.bytes l.from l.zone

abbrev pub decreases-loop-handle : goal.decreases-loop-handle
decreases-loop-handle l = 2 ^ 32 - l.from
