-- The first block that can be moved down.
use Rattle.std.specs.Prelude.{◌≡◌, ℕ, Bool, false, IsTrue, IsFalse, List, [], ◌∷◌, ◌++◌}
use Rattle.mac_base.specs.ZoneMap.{ZoneMap, address_after}
use Rattle.mac_base.specs.ZoneState.{ZoneState}
use Rattle.linked_zone.specs.Places.{EntryAt}
use Rattle.zone_index.specs.declared.weight.Weight.{Weight}
use Rattle.zone_index.specs.Weights.{in_order, weights}

-- the first block that is out of order is at an address: those below are in order, and with it they aren't
pub record FirstOutOfOrder (z : ZoneState) (at : ℕ) : Type 0 where
  pub entry : EntryAt z at
  pub below : IsTrue (in_order false (weights z.heap.table entry.before))
  pub breaks : IsFalse (in_order false (weights z.heap.table (entry.before ++ entry.here ∷ [])))

-- the blocks below an address are in order, and any after them are as after a free block, or after none
pub record OrderedTo (z : ZoneState) (at : ℕ) (free : Bool) : Type 0 where
  pub before : ZoneMap
  pub after : ZoneMap
  pub map : z.heap.map ≡ before ++ after
  pub place : at ≡ address_after z.shape before
  pub order : (ws : List Weight) → in_order false (weights z.heap.table before ++ ws) ≡ in_order free ws
