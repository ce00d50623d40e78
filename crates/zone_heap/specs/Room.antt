-- Room that is made for a new block, and the block that is found there.
use Rattle.std.specs.Prelude.{◌≡◌, ℕ, None, Some}
use Rattle.mac_base.specs.declared.block.Kind.{Kind}
use Rattle.mac_base.specs.Gap.{Gap, gaps, lowest_gap}
use Rattle.mac_base.specs.Serve.{cleared, take_lowest, placed_relocatable}
use Rattle.mac_base.specs.ZoneMap.{ZoneMap, address_after}
use Rattle.mac_base.specs.ZoneState.{ZoneState}
use Rattle.linked_zone.specs.Changes.{with_map}
use Rattle.linked_zone.specs.Places.{LowestAt}
use Rattle.zone_heap.specs.Gaps.{with_gap}

-- no gap has room for k bytes, and nothing has changed
abbrev pub LacksRoom : ℕ → ZoneState → ZoneState → Type 0
LacksRoom k old new = (lowest_gap k (gaps old.heap.table old.heap.map) ≡ None) × (new ≡ old)

-- the lowest gap with room for k bytes is cleared for them, and begins at an address
pub record IsCleared (old : ZoneState) (k at : ℕ) (new : ZoneState) : Type 0 where
  pub gap : Gap
  pub lowest : lowest_gap k (gaps old.heap.table old.heap.map) ≡ Some gap
  pub start : at ≡ address_after old.shape gap.before
  pub zone : new ≡ with_gap old gap (cleared k gap.blocks)

-- the lowest free block of at least k bytes is at an address, and a relocatable block takes it
pub record IsOpened (old : ZoneState) (k at : ℕ) (new : ZoneState) : Type 0 where
  pub map : ZoneMap
  pub zone : new ≡ with_map map old
  pub low : LowestAt new k at
  pub taken : (kind : Kind) → placed_relocatable old.shape old.heap.table k kind old.heap.map ≡ take_lowest old.shape k kind map
