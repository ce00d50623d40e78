-- What a zone is once the next slot to be given is an empty handle.
use Rattle.std.proofs.Common.{◌≡◌, ℕ, ◌↔◌, cond, List, [], ◌∷◌, length, drop, Some, None, refl, ap, sym, ◌∙◌, IsTrue, IsFalse, Contains, subst, nat_eq, ne_eqb}
use Rattle.std.specs.Prelude.{slice_index}
use Rattle.std.specs.List.{IsDistinct}
use Rattle.std.proofs.lemmas.Map.Keys.{IsDistinct-tail}
use Rattle.mac_base.specs.ZoneMap.{addresses, contents_addresses, contents_of}
use Rattle.mac_base.specs.HandleTable.{HandleTable, EmptyHandle, live_at, live_bytes, live_full, live_handle, live_pointer, bytes_of, flags_of, live_flags, is_full, is_handle, is_pointer, with_live}
use Rattle.mac_base.specs.Heap.{front_slot}
use Rattle.mac_base.specs.Suits.{is_handle_block, is_pointer_block, slots}
use Rattle.mac_base.specs.ZoneState.{ZoneState}
use Rattle.zone_laws.proofs.Tables.{AgreeBut, live_at-with_live_same, with_live_agrees, in_order-with_live, not_live, by_number}
use Rattle.zone_laws.proofs.SlotPlaces.{Contains-here}
use Rattle.zone_laws.proofs.SoundPlaced.{front_slot-taken}
use Rattle.zone_records.specs.declared.slot.Slot.TheVariants as slot
use Rattle.linked_zone.specs.Owned.{slot_of, next_free, slot_of_live}
use Rattle.linked_zone.specs.Changes.{taken}
use Rattle.linked_zone.specs.Fit.{Fits, HasRooms}
use Rattle.linked_zone.proofs.ChangeParts.{same_slot, next_free-skip, next_free-front, slot-no_pointer}
use Rattle.linked_zone.proofs.Lent.{loans-kept}

module _ (z : ZoneState) (h : ℕ) (hs : List ℕ) (fits : Fits z) (rooms : HasRooms z) (front : z.heap.free_slots ≡ h ∷ hs) where
  abbrev u : HandleTable
  u = with_live h EmptyHandle z.heap.table

  is_free : Contains z.heap.free_slots h
  is_free = subst (λ xs. Contains xs h) (sym front) (Contains-here h hs)

  -- the slot is one of the zone's
  pub taken-slot : Contains (slots z.shape z.heap.map) h
  taken-slot = ((fits.slots.free h).0 is_free).0

  -- and nothing was live there
  pub taken-not_live : live_at z.heap.table h ≡ None
  taken-not_live = not_live z.heap.table h ((fits.slots.free h).0 is_free).1 (slot-no_pointer z h fits rooms taken-slot)

  rest : drop 1 z.heap.free_slots ≡ hs
  rest = ap (drop 1) front

  agree : AgreeBut h z.heap.table u
  agree = with_live_agrees h EmptyHandle z.heap.table

  has : live_at u h ≡ Some EmptyHandle
  has = live_at-with_live_same h EmptyHandle z.heap.table

  -- the zone still fits
  pub taken-fits : Fits (taken h z)
  taken-fits = record {
    coherent = record {
      handles = by_number (λ g. length (addresses z.shape (is_handle_block g) z.heap.map) ≡ cond (is_full u g) 1 0) h
          (fits.coherent.handles h ∙ ap (λ o. cond (live_full o) 1 0) taken-not_live ∙ ap (λ o. cond (live_full o) 1 0) (sym has))
          (λ g apart. fits.coherent.handles g ∙ ap (λ o. cond (live_full o) 1 0) (sym (agree.others g apart)));
      pointers = by_number (λ p. contents_addresses z.shape (is_pointer_block p) z.heap.map ≡ cond (is_pointer u p) (p ∷ []) []) h
          (fits.coherent.pointers h ∙ ap (λ o. cond (live_pointer o) (h ∷ []) []) taken-not_live ∙ ap (λ o. cond (live_pointer o) (h ∷ []) []) (sym has))
          (λ p apart. fits.coherent.pointers p ∙ ap (λ o. cond (live_pointer o) (p ∷ []) []) (sym (agree.others p apart)));
      in_slots = by_number (λ g. IsTrue (is_handle u g) → Contains (slots z.shape z.heap.map) g) h
          (λ _. taken-slot)
          (λ g apart live. fits.coherent.in_slots g (sym (ap live_handle (agree.others g apart)) ∙ live));
      in_order = in_order-with_live h EmptyHandle z.heap.table fits.coherent.in_order;
    };
    slots = record {
      free = subst (λ xs. (x : ℕ) → Contains xs x ↔ (Contains (slots z.shape z.heap.map) x × IsFalse (is_handle u x))) (sym rest)
          (front_slot-taken h hs (slots z.shape z.heap.map) z.heap.table u once_front
          (subst (λ xs. (x : ℕ) → Contains xs x ↔ (Contains (slots z.shape z.heap.map) x × IsFalse (is_handle z.heap.table x))) front fits.slots.free) agree (ap live_handle has));
      once = subst (IsDistinct nat_eq) (sym rest) (IsDistinct-tail nat_eq h hs once_front);
    };
    loans = loans-kept z.heap (taken h z).heap fits.loans refl refl;
  }
    where
      once_front : IsDistinct nat_eq (h ∷ hs)
      once_front = subst (IsDistinct nat_eq) front fits.slots.once

  -- its master pointer says that it is empty
  pub taken-pointer : slot_of (taken h z) h ≡ slot.Empty
  taken-pointer = ap (λ o. (slot_of_live z.shape.heads o (contents_of z.shape h z.heap.map) (next_free (drop 1 z.heap.free_slots) h))) has

  -- all others stay
  pub taken-others : (x : ℕ) → (x ≡ h → ⊥) → slot_of (taken h z) x ≡ slot_of z x
  taken-others x other =
      let apart = ne_eqb x h other in
      same_slot z (taken h z) x refl (agree.others x apart) refl
      (ap (λ xs. next_free xs x) rest ∙ sym (next_free-skip h hs x apart) ∙ ap (λ xs. next_free xs x) (sym front))

  -- the bytes of all stay: an empty handle has none
  pub taken-bytes : (x : ℕ) → bytes_of (taken h z).heap.table x ≡ bytes_of z.heap.table x
  taken-bytes = by_number (λ x. bytes_of (taken h z).heap.table x ≡ bytes_of z.heap.table x) h
      (ap live_bytes has ∙ sym (ap live_bytes taken-not_live))
      (λ x apart. ap live_bytes (agree.others x apart))

  -- so do their flags
  pub taken-flags : (x : ℕ) → flags_of (taken h z).heap.table x ≡ flags_of z.heap.table x
  taken-flags = by_number (λ x. flags_of (taken h z).heap.table x ≡ flags_of z.heap.table x) h
      (ap live_flags has ∙ sym (ap live_flags taken-not_live))
      (λ x apart. ap live_flags (agree.others x apart))

  -- its master pointer said which slot is given after it
  pub taken-next : slot_of z h ≡ slot.Free (front_slot (taken h z).heap)
  taken-next = ap (λ o. (slot_of_live z.shape.heads o (contents_of z.shape h z.heap.map) (next_free z.heap.free_slots h))) taken-not_live
      ∙ ap slot.Free (ap (λ xs. next_free xs h) front ∙ next_free-front h hs ∙ ap (λ xs. slice_index xs 0) (sym rest))
