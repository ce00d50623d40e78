-- Runs of neighbouring blocks by their addresses.
use Rattle.std.specs.Prelude.{◌≡◌, ℕ, Bool, true, not, IsTrue, [], ◌∷◌, ◌++◌}
use Rattle.std.specs.List.{list_all}
use Rattle.mac_base.specs.declared.block.Entry.{Entry}
use Rattle.mac_base.specs.Gap.{is_fixed}
use Rattle.mac_base.specs.HandleTable.{HandleTable}
use Rattle.mac_base.specs.ZoneMap.{ZoneMap, address_after}
use Rattle.mac_base.specs.ZoneState.{ZoneState}

-- whether none is fixed
abbrev pub none_fixed : HandleTable → ZoneMap → Bool
none_fixed t blocks = list_all (λ (e : Entry). not (is_fixed t e.kind)) blocks

-- whether the first is fixed, if there is one
abbrev pub begins_fixed : HandleTable → ZoneMap → Bool
begins_fixed t [] = true
begins_fixed t (e ∷ es) = is_fixed t e.kind

-- whether the last is fixed, if there is one
abbrev pub ends_fixed : HandleTable → ZoneMap → Bool
ends_fixed t [] = true
ends_fixed t (e ∷ []) = is_fixed t e.kind
ends_fixed t (e ∷ f ∷ es) = ends_fixed t (f ∷ es)

-- the blocks from an address on up to the next fixed one, or to the zone's end
pub record RestAt (z : ZoneState) (start : ℕ) : Type 0 where
  pub before : ZoneMap
  pub blocks : ZoneMap
  pub after : ZoneMap
  pub map : z.heap.map ≡ before ++ (blocks ++ after)
  pub place : start ≡ address_after z.shape before
  pub moves : IsTrue (none_fixed z.heap.table blocks)
  pub above : IsTrue (begins_fixed z.heap.table after)

-- the blocks after the last fixed one below an address, or from the zone's start on
pub record FrontAt (z : ZoneState) (end : ℕ) : Type 0 where
  pub before : ZoneMap
  pub blocks : ZoneMap
  pub after : ZoneMap
  pub map : z.heap.map ≡ before ++ (blocks ++ after)
  pub place : end ≡ address_after z.shape (before ++ blocks)
  pub moves : IsTrue (none_fixed z.heap.table blocks)
  pub below : IsTrue (ends_fixed z.heap.table before)
