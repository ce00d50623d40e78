-- What a zone is once an empty handle has a block that was free.
use Rattle.std.proofs.Common.{◌≡◌, ℕ, ◌+◌, true, false, cond, [], ◌∷◌, ◌++◌, length, Some, refl, ap, sym, ◌∙◌, Contains, ne_eqb}
use Rattle.mac_base.specs.declared.block.Kind.TheVariants.{Free, Rel}
use Rattle.mac_base.specs.HeadKind.{head_size}
use Rattle.mac_base.specs.ZoneMap.{ZoneMap, block, addresses, contents_addresses, contents_of}
use Rattle.mac_base.specs.HandleTable.{HandleTable, Live, EmptyHandle, FullHandle, no_flags, zeros, live_at, live_full, live_handle, live_pointer, is_full, is_handle, is_lent, is_pointer, with_live}
use Rattle.mac_base.specs.Suits.{is_handle_block, is_pointer_block, slots}
use Rattle.mac_base.specs.ZoneState.{ZoneState}
use Rattle.zone_laws.proofs.Tables.{AgreeBut, live_at-with_live_same, with_live_agrees, in_order-with_live, by_number, eqb_same, eqb_swap}
use Rattle.zone_laws.proofs.Owners.{none_named}
use Rattle.zone_records.specs.declared.slot.Slot.TheVariants as slot
use Rattle.linked_zone.specs.Owned.{slot_flags, slot_of, next_free, slot_of_live}
use Rattle.linked_zone.specs.Places.{FreeAt}
use Rattle.linked_zone.specs.Changes.{pointed}
use Rattle.linked_zone.specs.Fit.{Fits}
use Rattle.linked_zone.proofs.ChangeParts.{same_slot, none_named-fits, Fits-kept}
use Rattle.linked_zone.proofs.Lent.{loans-replaced, not-lent}
use Rattle.linked_zone.proofs.ChangeBlock.{none_handle, none_named-parts, addresses-only, contents_of-first, swapped-addresses, swapped-slots, swapped-pointers, swapped-contents}

module _ (z : ZoneState) (h n at : ℕ) (free : FreeAt z at) (fits : Fits z) (empty : live_at z.heap.table h ≡ Some EmptyHandle) where
  -- the slot is one of the zone's
  pub pointed-slot : Contains (slots z.shape z.heap.map) h
  pointed-slot = fits.coherent.in_slots h (ap live_handle empty)

  -- no block bears the handle's name
  pub pointed-none : none_named h z.heap.map ≡ true
  pointed-none = none_named-fits z h fits (ap live_full empty) (ap live_pointer empty)

  -- it isn't lent
  pub pointed-unlent : is_lent z.heap.table h ≡ false
  pointed-unlent = not-lent z.heap fits.loans h pointed-none

  none : (none_named h free.before ≡ true) × (none_named h free.after ≡ true)
  none = none_named-parts h free.before (block Free free.size) free.after (ap (none_named h) (sym free.map) ∙ pointed-none)

  -- none before the free block
  pub pointed-none_before : none_named h free.before ≡ true
  pointed-none_before = none.0

  -- and none after it
  pub pointed-none_after : none_named h free.after ≡ true
  pointed-none_after = none.1

  abbrev l : Live
  l = FullHandle no_flags (zeros n)

  abbrev u : HandleTable
  u = with_live h l z.heap.table

  abbrev m : ZoneMap
  m = free.before ++ block (Rel h) free.size ∷ free.after

  agree : AgreeBut h z.heap.table u
  agree = with_live_agrees h l z.heap.table

  has : live_at u h ≡ Some l
  has = live_at-with_live_same h l z.heap.table

  -- the zone still fits
  pub pointed-fits : Fits (pointed h n z free)
  pointed-fits = Fits-kept z u m fits
      (by_number (λ g. length (addresses z.shape (is_handle_block g) m) ≡ cond (is_full u g) 1 0) h
      (ap length (addresses-only z.shape (is_handle_block h) free.before (block (Rel h) free.size) free.after (none_handle h free.before none.0) (none_handle h free.after none.1) (eqb_same h))
      ∙ ap (λ o. cond (live_full o) 1 0) (sym has))
      (λ g apart. ap length (swapped-addresses z free.before Free (Rel h) free.size free.after free.map (is_handle_block g) (eqb_swap h g ∙ apart)) ∙ fits.coherent.handles g ∙ ap (λ o. cond (live_full o) 1 0) (sym (agree.others g apart))))
      (by_number (λ p. contents_addresses z.shape (is_pointer_block p) m ≡ cond (is_pointer u p) (p ∷ []) []) h
      (swapped-pointers z free.before Free (Rel h) free.size free.after free.map h refl ∙ fits.coherent.pointers h ∙ ap (λ o. cond (live_pointer o) (h ∷ []) []) empty ∙ ap (λ o. cond (live_pointer o) (h ∷ []) []) (sym has))
      (λ p apart. swapped-pointers z free.before Free (Rel h) free.size free.after free.map p refl ∙ fits.coherent.pointers p ∙ ap (λ o. cond (live_pointer o) (p ∷ []) []) (sym (agree.others p apart))))
      (swapped-slots z free.before Free (Rel h) free.size free.after free.map refl)
      (by_number (λ y. is_handle u y ≡ is_handle z.heap.table y) h (ap live_handle has ∙ sym (ap live_handle empty)) (λ y apart. ap live_handle (agree.others y apart)))
      (in_order-with_live h l z.heap.table fits.coherent.in_order)
      (loans-replaced z.heap (record { table = u; map = m; free_slots = z.heap.free_slots }) free.before (block Free free.size ∷ []) (block (Rel h) free.size ∷ []) free.after fits.loans refl free.map refl
      (ap (λ c. cond c (h ∷ []) []) pointed-unlent))

  -- its contents begin after the block's header
  pub pointed-contents : contents_of z.shape h (pointed h n z free).heap.map ≡ at + head_size z.shape.heads
  pointed-contents = contents_of-first z.shape h free.before (block (Rel h) free.size) free.after none.0 (eqb_same h) ∙ ap (λ a. a + head_size z.shape.heads) (sym free.place)

  -- its master pointer says so, without flags
  pub pointed-pointer : slot_of (pointed h n z free) h ≡ slot.Full (slot_flags z.shape.heads no_flags) (at + head_size z.shape.heads)
  pointed-pointer = ap (λ o. (slot_of_live z.shape.heads o (contents_of z.shape h m) (next_free z.heap.free_slots h))) has ∙ ap (slot.Full (slot_flags z.shape.heads no_flags)) pointed-contents

  -- all others stay
  pub pointed-others : (x : ℕ) → (x ≡ h → ⊥) → slot_of (pointed h n z free) x ≡ slot_of z x
  pointed-others x other =
      let apart = ne_eqb x h other in
      same_slot z (pointed h n z free) x refl (agree.others x apart) (swapped-contents z free.before Free (Rel h) free.size free.after free.map x (eqb_swap h x ∙ apart)) refl
