-- Gaps by the addresses of their first free blocks.
use Rattle.std.specs.Prelude.{◌≡◌, ℕ, ◌∷◌, ◌++◌, IsTrue, Some}
use Rattle.mac_base.specs.Gap.{Gap, gaps, lowest_gap}
use Rattle.mac_base.specs.declared.block.Kind.TheVariants.{Free}
use Rattle.mac_base.specs.ZoneMap.{ZoneMap, block, address_after}
use Rattle.mac_base.specs.ZoneState.{ZoneState}
use Rattle.linked_zone.specs.Places.{none_free}
use Rattle.zone_index.specs.Runs.{RestAt, ends_fixed}

-- the first free block of a gap is at an address
pub record FirstFreeOf (z : ZoneState) (g : Gap) (at : ℕ) : Type 0 where
  pub used : ZoneMap
  pub size : ℕ
  pub rest : ZoneMap
  pub blocks : g.blocks ≡ used ++ block Free size ∷ rest
  pub none : IsTrue (none_free used)
  pub place : at ≡ address_after z.shape (g.before ++ used)

-- that of the lowest gap with room for k bytes
pub record IsLowestGap (z : ZoneState) (k at : ℕ) : Type 0 where
  pub gap : Gap
  pub lowest : lowest_gap k (gaps z.heap.table z.heap.map) ≡ Some gap
  pub first : FirstFreeOf z gap at

-- a gap begins at an address
pub record GapAt (z : ZoneState) (at : ℕ) : Type 0 where
  pub rest : RestAt z at
  pub below : IsTrue (ends_fixed z.heap.table rest.before)
