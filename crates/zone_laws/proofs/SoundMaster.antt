-- A sound heap stays sound where a new master block is placed: its slots are new, and go in front of the free ones.
use Rattle.std.proofs.Common.{◌≡◌, ℕ, zero, suc, ◌+◌, ◌-◌, ◌≤◌, true, false, List, [], ◌∷◌, ◌++◌, length, map, append-nil, refl, ap, sym, ◌∙◌, subst, arith, IsTrue, Contains, inl, inr, nat_eq}
use Rattle.std.specs.Prelude.{◌⊎◌, flat_map}
use Rattle.std.specs.List.{IsDistinct, list_all}
use Rattle.std.proofs.lemmas.Bool.{and_parts}
use Rattle.std.proofs.lemmas.List.{map-append}
use Rattle.std.proofs.lemmas.List.Elements.{Contains-append_cases, Contains-append_left, Contains-append_right}
use Rattle.std.proofs.lemmas.List.Folds.{list_all-append}
use Rattle.std.proofs.lemmas.Grind.{flat_map-append}
use Rattle.mac_base.specs.declared.block.Kind.TheVariants.{Free, Master}
use Rattle.mac_base.specs.HeadKind.{Shape, need, head_size, slot_count, master_length, zone_header}
use Rattle.mac_base.specs.ZoneMap.{ZoneMap, block, is_master, total_size, address_after}
use Rattle.mac_base.specs.HandleTable.{is_handle}
use Rattle.mac_base.specs.Suits.{Suits, has_owners_length, is_handle_block, is_pointer_block, slots, slots_from}
use Rattle.mac_base.specs.declared.request.Request.TheVariants.{NewMaster}
use Rattle.mac_base.specs.Serve.{taken}
use Rattle.mac_base.specs.Heap.{Heap, granted}
use Rattle.mac_base.specs.Sound.{Sound, is_growth}
use Rattle.zone_laws.proofs.Placing.{TakenAt}
use Rattle.zone_laws.proofs.Maps.{addresses_from-append, total_size-exchanged, list_all-exchanged}
use Rattle.zone_laws.proofs.Taken.{need-is_size, addresses_from-taken, lengths-taken, taken_exchange, total_size-taken}
use Rattle.zone_laws.proofs.SuitsTaken.{addresses-untaken, contents-same, free_apart-kept, sizes-kept}
use Rattle.zone_laws.proofs.SoundReleased.{IsDistinct-more}
use Rattle.zone_laws.proofs.SlotOwners.{rooms-suits}
use Rattle.zone_laws.proofs.SlotPlaces.{Contains-here, Contains-later, has_room, slots_at, slots_at-above, slots_from-bounds}
use Rattle.zone_laws.proofs.SlotBounds.{slots_at-below}
use Rattle.zone_laws.proofs.FreshNumbers.{need-above}

-- the slots of two parts of a map
slots_at-append : (head n at : ℕ) (a b : ZoneMap) → slots_at head n at (a ++ b) ≡ slots_at head n at a ++ slots_at head n (at + total_size a) b
slots_at-append head n at a b = grind (arith, addresses_from-append, flat_map-append, map-append)

-- slots in order, none of which is on a list, in front of it: each once
slots-in_front : (n at : ℕ) (xs : List ℕ) → ((y : ℕ) → Contains (slots_from n at) y → Contains xs y → ⊥) → IsDistinct nat_eq xs → IsDistinct nat_eq (slots_from n at ++ xs)
slots-in_front zero at xs new once = once
slots-in_front (suc n) at xs new once =
    IsDistinct-more at (slots_from n (at + 4) ++ xs)
    (λ c. elim (Contains-append_cases (slots_from n (at + 4)) xs at c) [
      | inl later ↦ (let bounds = slots_from-bounds n (at + 4) at later in omega arith)
      | inr old ↦ new at (Contains-here at (slots_from n (at + 4))) old
    ])
    (slots-in_front n (at + 4) xs (λ y c. new y (Contains-later at (slots_from n (at + 4)) y c)) once)

module _ (s : Shape) (heap : Heap) (x : ℕ) (m : ZoneMap) (sound : Sound s heap) (at : TakenAt s (need s.heads master_length) Master heap.map m) (here : x ≡ address_after s at.before + head_size s.heads) where
  abbrev k : ℕ
  k = need s.heads master_length

  abbrev start : ℕ
  start = address_after s []

  abbrev low : List ℕ
  low = slots_at (head_size s.heads) slot_count start at.before

  abbrev high : List ℕ
  high = slots_at (head_size s.heads) slot_count ((start + total_size at.before) + at.size) at.after

  rooms : (list_all (has_room (head_size s.heads) slot_count) at.before ≡ true) × (list_all (has_room (head_size s.heads) slot_count) at.after ≡ true)
  rooms =
      let p = has_room (head_size s.heads) slot_count in
      let all = and_parts (list_all p at.before) (list_all p (block Free at.size ∷ at.after)) (sym (list_all-append p at.before (block Free at.size ∷ at.after)) ∙ ap (list_all p) (sym at.was) ∙ rooms-suits s heap.table heap.map sound.suits) in
      (all.0, (and_parts (p (block Free at.size)) (list_all p at.after) all.1).1)

  -- the slots of before are those of the blocks on either side
  old_slots : slots s heap.map ≡ low ++ high
  old_slots = ap (slots s) at.was ∙ slots_at-append (head_size s.heads) slot_count start at.before (block Free at.size ∷ at.after)

  -- and the new ones are between them
  new_slots : slots s m ≡ low ++ (slots_from slot_count x ++ high)
  new_slots = ap (slots s) at.is ∙ slots_at-append (head_size s.heads) slot_count start at.before (taken s k Master at.size ++ at.after)
      ∙ ap (λ ss. low ++ ss) (slots_at-append (head_size s.heads) slot_count (start + total_size at.before) (taken s k Master at.size) at.after
      ∙ ap (λ ats. flat_map (slots_from slot_count) (map (λ a. a + head_size s.heads) ats) ++ slots_at (head_size s.heads) slot_count ((start + total_size at.before) + total_size (taken s k Master at.size)) at.after)
      (addresses_from-taken s k Master at.size (start + total_size at.before) is_master refl)
      ∙ ap (λ n. (slots_from slot_count ((start + total_size at.before) + head_size s.heads) ++ []) ++ slots_at (head_size s.heads) slot_count ((start + total_size at.before) + n) at.after) (total_size-taken s k Master at.size at.fits)
      ∙ ap (λ ss. ss ++ high) (append-nil (slots_from slot_count ((start + total_size at.before) + head_size s.heads)) ∙ ap (slots_from slot_count) there))
    where
      there : (start + total_size at.before) + head_size s.heads ≡ x
      there = omega arith

  -- none of the new slots is an old one
  new-not_old : (y : ℕ) → Contains (slots_from slot_count x) y → Contains (slots s heap.map) y → ⊥
  new-not_old y new old =
      let bounds = slots_from-bounds slot_count x y new in
      elim (Contains-append_cases low high y (subst (λ ss. Contains ss y) old_slots old)) [
        | inl below ↦ (let end = slots_at-below (head_size s.heads) slot_count start at.before y rooms.0 below in omega arith)
        | inr above ↦ (let first = slots_at-above (head_size s.heads) slot_count ((start + total_size at.before) + at.size) at.after y rooms.1 above in
            let large = need-above s.heads master_length in let fits = at.fits in omega arith)
      ]

  -- a slot of the new map is a new one or an old one
  slot-either : (y : ℕ) → Contains (slots s m) y → Contains (slots_from slot_count x) y ⊎ Contains (slots s heap.map) y
  slot-either y c = elim (Contains-append_cases low (slots_from slot_count x ++ high) y (subst (λ ss. Contains ss y) new_slots c)) [
    | inl below ↦ inr (subst (λ ss. Contains ss y) (sym old_slots) (Contains-append_left low high y below))
    | inr rest ↦ (elim (Contains-append_cases (slots_from slot_count x) high y rest) [
      | inl new ↦ inl new
      | inr above ↦ inr (subst (λ ss. Contains ss y) (sym old_slots) (Contains-append_right low high y above))
    ])
  ]

  slot-new : (y : ℕ) → Contains (slots_from slot_count x) y → Contains (slots s m) y
  slot-new y c = subst (λ ss. Contains ss y) (sym new_slots) (Contains-append_right low (slots_from slot_count x ++ high) y (Contains-append_left (slots_from slot_count x) high y c))

  slot-old : (y : ℕ) → Contains (slots s heap.map) y → Contains (slots s m) y
  slot-old y c = elim (Contains-append_cases low high y (subst (λ ss. Contains ss y) old_slots c)) [
    | inl below ↦ subst (λ ss. Contains ss y) (sym new_slots) (Contains-append_left low (slots_from slot_count x ++ high) y below)
    | inr above ↦ subst (λ ss. Contains ss y) (sym new_slots) (Contains-append_right low (slots_from slot_count x ++ high) y (Contains-append_right (slots_from slot_count x) high y above))
  ]

  -- none of them is a live handle
  new-no_handle : (y : ℕ) → Contains (slots_from slot_count x) y → is_handle heap.table y ≡ false
  new-no_handle y new = elim (is_handle heap.table y) as (λ b. is_handle heap.table y ≡ b → b ≡ false) [
    | true ↦ λ live. absurd (new-not_old y new (sound.suits.coherent.in_slots y live))
    | false ↦ λ _. refl
  ] refl

  Suits-master_taken : Suits s heap.table m
  Suits-master_taken =
      let suits = sound.suits in
      record {
        apart = free_apart-kept s k Master heap.map m at refl suits.apart;
        sizes = sizes-kept s k Master heap.map m at (need-is_size s master_length) suits.sizes;
        lengths = list_all-exchanged heap.map m (taken_exchange s k Master heap.map m at) (has_owners_length s heap.table) (lengths-taken s heap.table master_length Master at.size refl at.fits) suits.lengths;
        coherent = record {
          handles = λ h. ap length (addresses-untaken s k Master heap.map m at (is_handle_block h) refl refl) ∙ suits.coherent.handles h;
          pointers = λ p. contents-same s (is_pointer_block p) heap.map m (addresses-untaken s k Master heap.map m at (is_pointer_block p) refl refl) ∙ suits.coherent.pointers p;
          in_slots = λ h live. slot-old h (suits.coherent.in_slots h live);
          in_order = suits.coherent.in_order;
        };
      }

  -- the heap in which the master block has its place
  pub sound-master_taken : Sound s (granted NewMaster x m heap)
  sound-master_taken =
      let same_size = total_size-exchanged heap.map m (taken_exchange s k Master heap.map m at) in
      record {
        suits = Suits-master_taken;
        within = subst (λ n. zone_header + n ≤ s.limit) (sym same_size) sound.within;
        growth = subst (λ n. IsTrue (is_growth s (s.limit - (zone_header + n)))) (sym same_size) sound.growth;
        slots = record {
          free = λ y. (
            (λ c. elim (Contains-append_cases (slots_from slot_count x) heap.free_slots y c) [
              | inl new ↦ (slot-new y new, new-no_handle y new)
              | inr old ↦ (let fact = (sound.slots.free y).0 old in (slot-old y fact.0, fact.1))
            ]),
            (λ c. elim (slot-either y c.0) [
              | inl new ↦ Contains-append_left (slots_from slot_count x) heap.free_slots y new
              | inr old ↦ Contains-append_right (slots_from slot_count x) heap.free_slots y ((sound.slots.free y).1 (old, c.1))
            ]),
          );
          once = slots-in_front slot_count x heap.free_slots (λ y new old. new-not_old y new ((sound.slots.free y).0 old).0) sound.slots.once;
        };
      }
