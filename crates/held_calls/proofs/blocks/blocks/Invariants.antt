use Rattle.std.proofs.Common.{◌-◌}
use Rattle.mac_base.specs.ZoneMap.{address_after}
use Rattle.zone_laws.proofs.Walk.{HasWalked}
use Rattle.held_calls.proofs.blocks.blocks.Given as goal

-- the blocks so far
abbrev pub invariant-loop-block : goal.invariant-loop-block
invariant-loop-block l = HasWalked l.memory.shape l.memory.heap l.at l.blocks.items

-- the bytes that are left
abbrev pub decreases-loop-block : goal.decreases-loop-block
decreases-loop-block l = address_after l.memory.shape l.memory.heap.map - l.at
