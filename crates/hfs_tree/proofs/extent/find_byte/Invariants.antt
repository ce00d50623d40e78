use Rattle.std.proofs.Common.{◌≡◌, drop}
use Rattle.hfs_tree.specs.Extents.{place_in}
use Rattle.hfs_tree.proofs.extent.find_byte.Given as goal

-- the byte is where the extents from here on have it
abbrev pub invariant-loop-extent : goal.invariant-loop-extent
invariant-loop-extent l = place_in l.layout (drop l.extent-index l.extents) l.rest ≡ place_in l.layout l.extents l.fn.at
