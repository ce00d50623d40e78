-- Four walks over the blocks of a zone, which take turns.
use Rattle.std.specs.Prelude.{ℕ, ◌+◌, ◌<◌, ◌≤◌, List}
use Rattle.mac_base.specs.HeadKind.{zone_header}
use Rattle.block_bytes.specs.declared.own.Places.{Places}
use Rattle.block_bytes.specs.Finding.{SplitAt}
use Rattle.block_bytes.specs.Layout.{Layout, total_of}
use Rattle.block_bytes.specs.Structure.{OwnBetween}

-- each is where a block begins, or the last ends
pub record AreSplit (l : Layout) (at : Places) : Type 0 where
  pub first : SplitAt l (l.base + at.first)
  pub second : SplitAt l (l.base + at.second)
  pub third : SplitAt l (l.base + at.third)
  pub fourth : SplitAt l (l.base + at.fourth)

-- each ends where the last block does, or before
pub record AreInside (l : Layout) (ends : Places) : Type 0 where
  pub first : ends.first ≤ zone_header + total_of l.heads l.blocks
  pub second : ends.second ≤ zone_header + total_of l.heads l.blocks
  pub third : ends.third ≤ zone_header + total_of l.heads l.blocks
  pub fourth : ends.fourth ≤ zone_header + total_of l.heads l.blocks

-- the own bytes of the blocks that each has passed are in their places
pub record HavePassed (l : Layout) (bytes : List ℕ) (from to : Places) : Type 0 where
  pub first : OwnBetween l bytes from.first to.first
  pub second : OwnBetween l bytes from.second to.second
  pub third : OwnBetween l bytes from.third to.third
  pub fourth : OwnBetween l bytes from.fourth to.fourth

-- each that wasn't at its end is further on
pub record HaveMoved (at ends next : Places) : Type 0 where
  pub first : at.first < ends.first → at.first < next.first
  pub second : at.second < ends.second → at.second < next.second
  pub third : at.third < ends.third → at.third < next.third
  pub fourth : at.fourth < ends.fourth → at.fourth < next.fourth

-- each is at its end, or further on
pub record AreDone (at ends : Places) : Type 0 where
  pub first : ends.first ≤ at.first
  pub second : ends.second ≤ at.second
  pub third : ends.third ≤ at.third
  pub fourth : ends.fourth ≤ at.fourth
