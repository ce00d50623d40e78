-- What a zone is once the slot of an empty handle is the next to be given.
use Rattle.std.proofs.Common.{◌≡◌, ℕ, ◌↔◌, false, cond, eqb, [], ◌∷◌, length, Some, None, refl, ap, sym, ◌∙◌, IsTrue, IsFalse, Contains, inl, inr, ne_eqb}
use Rattle.mac_base.specs.ZoneMap.{addresses, contents_addresses, contents_of}
use Rattle.mac_base.specs.HandleTable.{HandleTable, EmptyHandle, live_at, live_bytes, live_full, live_handle, live_pointer, bytes_of, flags_of, live_flags, is_full, is_handle, is_pointer, without}
use Rattle.mac_base.specs.Heap.{front_slot}
use Rattle.mac_base.specs.Suits.{is_handle_block, is_pointer_block, slots}
use Rattle.mac_base.specs.ZoneState.{ZoneState}
use Rattle.zone_laws.proofs.Tables.{AgreeBut, live_at-without_same, without_agrees, in_order-without, by_number, eqb_same}
use Rattle.zone_laws.proofs.SlotPlaces.{Contains-cons_cases, Contains-here, Contains-later}
use Rattle.zone_laws.proofs.SoundReleased.{IsDistinct-more}
use Rattle.zone_records.specs.declared.slot.Slot.TheVariants as slot
use Rattle.linked_zone.specs.Owned.{slot_of, next_free, slot_of_live}
use Rattle.linked_zone.specs.Changes.{given_back}
use Rattle.linked_zone.specs.Fit.{Fits}
use Rattle.linked_zone.proofs.ChangeParts.{same_slot, next_free-skip, next_free-front}
use Rattle.linked_zone.proofs.Lent.{loans-kept}

module _ (z : ZoneState) (h : ℕ) (fits : Fits z) (empty : live_at z.heap.table h ≡ Some EmptyHandle) where
  -- the slot is one of the zone's
  pub given_back-slot : Contains (slots z.shape z.heap.map) h
  given_back-slot = fits.coherent.in_slots h (ap live_handle empty)

  abbrev u : HandleTable
  u = without h z.heap.table

  agree : AgreeBut h z.heap.table u
  agree = without_agrees h z.heap.table

  gone : live_at u h ≡ None
  gone = live_at-without_same h z.heap.table

  not_free : Contains z.heap.free_slots h → ⊥
  not_free c = cc (((fits.slots.free h).0 c).1, ap live_handle empty)

  differ : (y : ℕ) → eqb y h ≡ false → h ≡ y → ⊥
  differ y apart same = cc (sym (ap (eqb y) same) ∙ apart, eqb_same y)

  -- the zone still fits
  pub given_back-fits : Fits (given_back h z)
  given_back-fits = record {
    coherent = record {
      handles = by_number (λ g. length (addresses z.shape (is_handle_block g) z.heap.map) ≡ cond (is_full u g) 1 0) h
          (fits.coherent.handles h ∙ ap (λ o. cond (live_full o) 1 0) empty ∙ ap (λ o. cond (live_full o) 1 0) (sym gone))
          (λ g apart. fits.coherent.handles g ∙ ap (λ o. cond (live_full o) 1 0) (sym (agree.others g apart)));
      pointers = by_number (λ p. contents_addresses z.shape (is_pointer_block p) z.heap.map ≡ cond (is_pointer u p) (p ∷ []) []) h
          (fits.coherent.pointers h ∙ ap (λ o. cond (live_pointer o) (h ∷ []) []) empty ∙ ap (λ o. cond (live_pointer o) (h ∷ []) []) (sym gone))
          (λ p apart. fits.coherent.pointers p ∙ ap (λ o. cond (live_pointer o) (p ∷ []) []) (sym (agree.others p apart)));
      in_slots = by_number (λ g. IsTrue (is_handle u g) → Contains (slots z.shape z.heap.map) g) h
          (λ live. absurd (cc (sym (ap live_handle gone) ∙ live)))
          (λ g apart live. fits.coherent.in_slots g (sym (ap live_handle (agree.others g apart)) ∙ live));
      in_order = in_order-without h z.heap.table fits.coherent.in_order;
    };
    slots = record {
      free = by_number (λ y. Contains (h ∷ z.heap.free_slots) y ↔ (Contains (slots z.shape z.heap.map) y × IsFalse (is_handle u y))) h
          ((λ _. (given_back-slot, ap live_handle gone)), (λ _. Contains-here h z.heap.free_slots))
          (λ y apart. (
            (λ c. elim (Contains-cons_cases h z.heap.free_slots y c) [
              | inl same ↦ absurd (differ y apart same)
              | inr later ↦ (let fact = (fits.slots.free y).0 later in (fact.0, ap live_handle (agree.others y apart) ∙ fact.1))
            ]),
            (λ c. Contains-later h z.heap.free_slots y ((fits.slots.free y).1 (c.0, sym (ap live_handle (agree.others y apart)) ∙ c.1))),
          ));
      once = IsDistinct-more h z.heap.free_slots not_free fits.slots.once;
    };
    loans = loans-kept z.heap (given_back h z).heap fits.loans refl refl;
  }

  -- its master pointer says which slot is given after it
  pub given_back-pointer : slot_of (given_back h z) h ≡ slot.Free (front_slot z.heap)
  given_back-pointer = ap (λ o. (slot_of_live z.shape.heads o (contents_of z.shape h z.heap.map) (next_free (h ∷ z.heap.free_slots) h))) gone
      ∙ ap slot.Free (next_free-front h z.heap.free_slots)

  -- all others stay
  pub given_back-others : (x : ℕ) → (x ≡ h → ⊥) → slot_of (given_back h z) x ≡ slot_of z x
  given_back-others x other =
      let apart = ne_eqb x h other in
      same_slot z (given_back h z) x refl (agree.others x apart) refl (next_free-skip h z.heap.free_slots x apart)

  -- the bytes of all stay: an empty handle has none
  pub given_back-bytes : (x : ℕ) → bytes_of (given_back h z).heap.table x ≡ bytes_of z.heap.table x
  given_back-bytes = by_number (λ x. bytes_of (given_back h z).heap.table x ≡ bytes_of z.heap.table x) h
      (ap live_bytes gone ∙ sym (ap live_bytes empty))
      (λ x apart. ap live_bytes (agree.others x apart))

  -- so do their flags
  pub given_back-flags : (x : ℕ) → flags_of (given_back h z).heap.table x ≡ flags_of z.heap.table x
  given_back-flags = by_number (λ x. flags_of (given_back h z).heap.table x ≡ flags_of z.heap.table x) h
      (ap live_flags gone ∙ sym (ap live_flags empty))
      (λ x apart. ap live_flags (agree.others x apart))
