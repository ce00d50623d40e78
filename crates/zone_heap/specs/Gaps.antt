-- Gaps by their addresses.
use Rattle.std.specs.Prelude.{◌≡◌, ℕ, ◌+◌, ◌++◌, Contains, IsTrue, Option, Some}
use Rattle.std.specs.Option.{option_map_or}
use Rattle.mac_base.specs.Arrangement.{open_at}
use Rattle.mac_base.specs.Gap.{Gap, gaps, filled, own_gap}
use Rattle.mac_base.specs.HandleTable.{HandleTable}
use Rattle.mac_base.specs.Loans.{LoansAreFixed}
use Rattle.mac_base.specs.Suits.{Coherent}
use Rattle.mac_base.specs.ZoneMap.{ZoneMap, address_after, total_size}
use Rattle.mac_base.specs.ZoneState.{ZoneState}
use Rattle.linked_zone.specs.Changes.{with_map}
use Rattle.linked_zone.specs.Fit.{HasSizes}
use Rattle.zone_index.specs.Runs.{begins_fixed, ends_fixed, none_fixed}
use Rattle.zone_index.specs.Gaps.{FirstFreeOf}
use Rattle.zone_heap.specs.declared.gap.FoundGap.{FoundGap}

-- blocks may be moved: they and their owners find each other, sizes are possible, and what is lent is fixed
pub record Settled (z : ZoneState) : Type 0 where
  pub coherent : Coherent z.shape z.heap.table z.heap.map
  pub sizes : HasSizes z
  pub loans : LoansAreFixed z.heap

-- a gap begins at an address
pub record GapAt (z : ZoneState) (start : ℕ) : Type 0 where
  pub gap : Gap
  pub among : Contains (gaps z.heap.table z.heap.map) gap
  pub place : start ≡ address_after z.shape gap.before

-- a gap begins at an address and ends at another
pub record GapBetween (z : ZoneState) (start end : ℕ) : Type 0 where
  pub at : GapAt z start
  pub long : end ≡ start + total_size at.gap.blocks

-- the first free block of some gap is at an address
pub record GapFrom (z : ZoneState) (at : ℕ) : Type 0 where
  pub gap : Gap
  pub among : Contains (gaps z.heap.table z.heap.map) gap
  pub first : FirstFreeOf z gap at

-- the blocks around an address, from after the last fixed one below it up to the next fixed one: those of a gap
pub record AroundAt (z : ZoneState) (at : ℕ) : Type 0 where
  pub before : ZoneMap
  pub lower : ZoneMap
  pub upper : ZoneMap
  pub after : ZoneMap
  pub map : z.heap.map ≡ before ++ ((lower ++ upper) ++ after)
  pub place : at ≡ address_after z.shape (before ++ lower)
  pub moves : IsTrue (none_fixed z.heap.table (lower ++ upper))
  pub below : IsTrue (ends_fixed z.heap.table before)
  pub above : IsTrue (begins_fixed z.heap.table after)

-- the gap that a search gives is found
pub record IsGapOf (z : ZoneState) (searched : Option Gap) (found : FoundGap) : Type 0 where
  pub gap : Gap
  pub is : searched ≡ Some gap
  pub start : found.start ≡ address_after z.shape gap.before
  pub end : found.end ≡ found.start + total_size gap.blocks

-- the zone with these blocks in a gap
abbrev pub with_gap : ZoneState → Gap → ZoneMap → ZoneState
with_gap z g blocks = with_map (filled g blocks) z

-- the map with the gap of the handle h open at it
abbrev pub opened_after : HandleTable → ℕ → ZoneMap → ZoneMap
opened_after t h m = option_map_or (λ (g : Gap). filled g (open_at h g.blocks)) (own_gap h (gaps t m)) m
