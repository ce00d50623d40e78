-- Between which addresses slots lie.
use Rattle.std.proofs.Common.{◌≡◌, ℕ, ◌+◌, ◌≤◌, true, [], ◌∷◌, arith, Contains, inl, inr}
use Rattle.std.specs.List.{list_all}
use Rattle.std.proofs.lemmas.Bool.{and_parts}
use Rattle.mac_base.specs.ZoneMap.{ZoneMap, total_size}
use Rattle.zone_laws.proofs.SlotPlaces.{Contains-none, has_room, slots_at, slot_cases}

-- a slot's four bytes lie within the blocks
pub slots_at-below : (head n at : ℕ) (m : ZoneMap) (h : ℕ) → list_all (has_room head n) m ≡ true → Contains (slots_at head n at m) h → h + 4 ≤ at + total_size m
slots_at-below head n at [] h room c = absurd (Contains-none h c)
slots_at-below head n at (e ∷ es) h room c =
    let rooms = and_parts (has_room head n e) (list_all (has_room head n) es) room in
    elim (slot_cases head n at e es h rooms.0 c) [
      | inl first ↦ (let end = first.2 in omega arith)
      | inr later ↦ let rest = slots_at-below head n (at + e.size) es h rooms.1 later in omega arith
    ]
