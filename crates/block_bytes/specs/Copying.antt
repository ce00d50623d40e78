-- Bytes of one block that are copied over those of another.
use Rattle.std.specs.Prelude.{◌≡◌, ℕ, ◌+◌, ◌≤◌, false, List, length}
use Rattle.mac_base.specs.ZoneState.{written}
use Rattle.block_bytes.specs.Layout.{RawBlock, Layout, BlockAt}

-- n bytes of contents of the block at one address, from a place among them on, can be copied over as many of the block
-- at another: both have so many, and neither is lent. It may be one block
pub record CanCopy (l : Layout) (from start to offset n : ℕ) : Type 0 where
  pub source : BlockAt l from
  pub target : BlockAt l to
  pub unlent_source : source.here.lent ≡ false
  pub unlent_target : target.here.lent ≡ false
  pub within_source : start + n ≤ length source.here.contents
  pub within_target : offset + n ≤ length target.here.contents

-- a block with bytes over those of its contents from a place among them on
abbrev pub copied_over : RawBlock → ℕ → List ℕ → RawBlock
copied_over b offset bytes = record b { contents = written offset bytes b.contents }
