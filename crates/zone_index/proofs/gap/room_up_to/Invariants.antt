use Rattle.std.proofs.Common.{◌-◌}
use Rattle.zone_index.specs.Runs.{RestAt}
use Rattle.zone_index.proofs.GapWalk.{Summed}
use Rattle.zone_index.proofs.gap.room_up_to.Given as goal

-- the blocks below are passed
abbrev pub invariant-loop-room : goal.invariant-loop-room
invariant-loop-room l = (rest : RestAt l.zone l.start) → Summed l.zone l.start rest l.from l.room

-- the bytes that are missing
abbrev pub decreases-loop-room : goal.decreases-loop-room
decreases-loop-room l = l.needed - l.room
