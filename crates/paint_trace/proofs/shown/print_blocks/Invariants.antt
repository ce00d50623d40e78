use Rattle.std.proofs.Common.{List, ◌-◌}
use Rattle.mac_base.specs.declared.block.Block.{Block}
use Rattle.mac_base.specs.ZoneMap.{address_after}
use Rattle.zone_laws.proofs.Walk.{HasWalked}
use Rattle.paint_trace.proofs.shown.print_blocks.Given as goal

-- the walk has come to an address
abbrev pub invariant-loop-block : goal.invariant-loop-block
invariant-loop-block l = (blocks : List Block) × HasWalked l.memory.shape l.memory.heap l.at blocks

-- the bytes that are left
abbrev pub decreases-loop-block : goal.decreases-loop-block
decreases-loop-block l = address_after l.memory.shape l.memory.heap.map - l.at
