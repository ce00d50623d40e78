use Rattle.std.proofs.Common.{◌≡◌, ◌≤◌, length, take}
use Rattle.zone_view.specs.Shown.{blocks_of, bytes_of}
use Rattle.zone_view.proofs.shown.share_of.Given as goal

-- the blocks so far that are of the class, and their bytes
abbrev pub invariant-loop-block : goal.invariant-loop-block
invariant-loop-block l = (l.count ≡ length (blocks_of l.class (take l.block-index l.blocks))) × (l.bytes ≡ bytes_of (blocks_of l.class (take l.block-index l.blocks))) × (l.count ≤ l.block-index)
