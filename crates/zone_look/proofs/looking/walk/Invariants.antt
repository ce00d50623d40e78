use Rattle.std.proofs.Common.{◌-◌, ◌≡◌, ◌≤◌, List, length, map}
use Rattle.mac_base.specs.declared.block.Block.{Block}
use Rattle.mac_base.specs.HeadKind.{zone_header}
use Rattle.zone_look.specs.Blocks.{AreBlocks}
use Rattle.zone_look.specs.Look.{put_in}
use Rattle.zone_look.proofs.looking.walk.Given as goal

-- the blocks from the first on up to here are found, and put in their rows
abbrev pub invariant-loop-at : goal.invariant-loop-at
invariant-loop-at g l = (found : List Block) × AreBlocks l.dump l.end zone_header found l.at × (l.count ≡ length found)
    × (l.blocks ≡ put_in l.initial.blocks (map g.B.FromBlock.made found)) × (l.at ≤ l.end) × (l.count ≤ l.at)

abbrev pub decreases-loop-at : goal.decreases-loop-at
decreases-loop-at g l = l.end - l.at
