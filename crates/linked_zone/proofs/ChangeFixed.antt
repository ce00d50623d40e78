-- What a zone is once a new pointer has a block that was free.
use Rattle.std.proofs.Common.{◌≡◌, ℕ, ◌+◌, true, false, cond, [], ◌∷◌, ◌++◌, length, map, Some, refl, ap, sym, ◌∙◌, subst, arith, Contains, ne_eqb}
use Rattle.std.proofs.lemmas.List.Elements.{Contains-append_right}
use Rattle.std.proofs.lemmas.Bool.{false_from_ne_true}
use Rattle.mac_base.specs.declared.block.Kind.TheVariants.{Free, Ptr}
use Rattle.mac_base.specs.HeadKind.{head_size, slot_count}
use Rattle.mac_base.specs.ZoneMap.{ZoneMap, block, is_free, total_size, addresses, addresses_from, address_after, contents_addresses}
use Rattle.mac_base.specs.HandleTable.{HandleTable, Live, Pointer, zeros, live_at, live_full, live_handle, live_pointer, is_full, is_handle, is_lent, is_pointer, with_live}
use Rattle.mac_base.specs.Suits.{is_handle_block, is_pointer_block, slots}
use Rattle.mac_base.specs.ZoneState.{ZoneState}
use Rattle.zone_laws.proofs.SlotOwners.{free_not_master, pointer_not_free}
use Rattle.zone_laws.proofs.SlotPlaces.{slot_no_contents, one_block_at, Contains-here}
use Rattle.zone_laws.proofs.Tables.{AgreeBut, live_at-with_live_same, with_live_agrees, in_order-with_live, by_number, eqb_same, eqb_swap, full_handle}
use Rattle.zone_laws.proofs.Owners.{none_named}
use Rattle.zone_laws.proofs.Maps.{addresses_from-append}
use Rattle.linked_zone.specs.Owned.{slot_of}
use Rattle.linked_zone.specs.Places.{FreeAt}
use Rattle.linked_zone.specs.Changes.{fixed}
use Rattle.linked_zone.specs.Fit.{Fits, HasRooms}
use Rattle.linked_zone.proofs.ChangeParts.{same_slot, none_named-fits, Fits-kept}
use Rattle.linked_zone.proofs.Numbered.{Contains-map}
use Rattle.linked_zone.proofs.Lent.{loans-replaced, not-lent}
use Rattle.linked_zone.proofs.ChangeBlock.{none_pointer, none_named-parts, addresses-only, swapped-addresses, swapped-slots, swapped-pointers, swapped-contents}

module _ (z : ZoneState) (n at : ℕ) (free : FreeAt z at) (fits : Fits z) (rooms : HasRooms z) where
  -- the pointer's number
  abbrev pub p : ℕ
  p = at + head_size z.shape.heads

  abbrev start : ℕ
  start = address_after z.shape []

  -- the free block is one of the map's
  free_there : Contains (addresses z.shape is_free z.heap.map) (start + total_size free.before)
  free_there = subst (λ xs. Contains xs (start + total_size free.before))
      (sym (ap (addresses z.shape is_free) free.map ∙ addresses_from-append start is_free free.before (block Free free.size ∷ free.after)))
      (Contains-append_right (addresses_from start is_free free.before) _ (start + total_size free.before)
      (Contains-here (start + total_size free.before) (addresses_from ((start + total_size free.before) + free.size) is_free free.after)))

  there : p ≡ start + total_size free.before + head_size z.shape.heads
  there = let place = free.place in omega arith

  -- no slot is where its contents begin
  pub fixed-no_slot : Contains (slots z.shape z.heap.map) p → ⊥
  fixed-no_slot slot = slot_no_contents (head_size z.shape.heads) slot_count start is_free free_not_master z.heap.map (start + total_size free.before) rooms free_there (subst (Contains (slots z.shape z.heap.map)) there slot)

  -- so no handle is live there
  pub fixed-no_handle : is_handle z.heap.table p ≡ false
  fixed-no_handle = false_from_ne_true (is_handle z.heap.table p) (λ live. fixed-no_slot (fits.coherent.in_slots p live))

  -- and no pointer
  pub fixed-no_pointer : is_pointer z.heap.table p ≡ false
  fixed-no_pointer = false_from_ne_true (is_pointer z.heap.table p) (λ live.
      let found = Contains-map (λ a. a + head_size z.shape.heads) (addresses z.shape (is_pointer_block p) z.heap.map) p
      (subst (λ xs. Contains xs p) (sym (fits.coherent.pointers p ∙ ap (λ c. cond c (p ∷ []) []) live)) (Contains-here p [])) in
      let same : found.0 ≡ start + total_size free.before = (let is = found.2 in let here = there in omega arith) in
      one_block_at (head_size z.shape.heads) slot_count start (is_pointer_block p) is_free (pointer_not_free p) z.heap.map (start + total_size free.before) rooms
      (subst (Contains (addresses z.shape (is_pointer_block p) z.heap.map)) same found.1) free_there)

  not_full : is_full z.heap.table p ≡ false
  not_full = false_from_ne_true (is_full z.heap.table p) (λ full. cc (full_handle z.heap.table p full, fixed-no_handle))

  none_all : none_named p z.heap.map ≡ true
  none_all = none_named-fits z p fits not_full fixed-no_pointer

  -- it isn't lent
  pub fixed-unlent : is_lent z.heap.table p ≡ false
  fixed-unlent = not-lent z.heap fits.loans p none_all

  none : (none_named p free.before ≡ true) × (none_named p free.after ≡ true)
  none = none_named-parts p free.before (block Free free.size) free.after (ap (none_named p) (sym free.map) ∙ none_all)

  -- no block before the free one bears the pointer's name
  pub fixed-none_before : none_named p free.before ≡ true
  fixed-none_before = none.0

  -- and none after it
  pub fixed-none_after : none_named p free.after ≡ true
  fixed-none_after = none.1

  abbrev l : Live
  l = Pointer (zeros n)

  abbrev u : HandleTable
  u = with_live p l z.heap.table

  abbrev m : ZoneMap
  m = free.before ++ block (Ptr p) free.size ∷ free.after

  agree : AgreeBut p z.heap.table u
  agree = with_live_agrees p l z.heap.table

  has : live_at u p ≡ Some l
  has = live_at-with_live_same p l z.heap.table

  -- its block is the only one that is the pointer's
  own : contents_addresses z.shape (is_pointer_block p) m ≡ p ∷ []
  own = ap (map (λ a. a + head_size z.shape.heads))
      (addresses-only z.shape (is_pointer_block p) free.before (block (Ptr p) free.size) free.after (none_pointer p free.before none.0) (none_pointer p free.after none.1) (eqb_same p))
      ∙ ap (λ a. (a + head_size z.shape.heads) ∷ []) (sym free.place)

  -- the zone still fits
  pub fixed-fits : Fits (fixed n z free)
  fixed-fits = Fits-kept z u m fits
      (λ g. ap length (swapped-addresses z free.before Free (Ptr p) free.size free.after free.map (is_handle_block g) refl) ∙ fits.coherent.handles g ∙ ap (λ c. cond c 1 0) (sym (full g)))
      (by_number (λ q. contents_addresses z.shape (is_pointer_block q) m ≡ cond (is_pointer u q) (q ∷ []) []) p
      (own ∙ ap (λ o. cond (live_pointer o) (p ∷ []) []) (sym has))
      (λ q apart. swapped-pointers z free.before Free (Ptr p) free.size free.after free.map q (eqb_swap p q ∙ apart) ∙ fits.coherent.pointers q ∙ ap (λ o. cond (live_pointer o) (q ∷ []) []) (sym (agree.others q apart))))
      (swapped-slots z free.before Free (Ptr p) free.size free.after free.map refl)
      (by_number (λ y. is_handle u y ≡ is_handle z.heap.table y) p (ap live_handle has ∙ sym fixed-no_handle) (λ y apart. ap live_handle (agree.others y apart)))
      (in_order-with_live p l z.heap.table fits.coherent.in_order)
      (loans-replaced z.heap (record { table = u; map = m; free_slots = z.heap.free_slots }) free.before (block Free free.size ∷ []) (block (Ptr p) free.size ∷ []) free.after fits.loans refl free.map refl
      (ap (λ c. cond c (p ∷ []) []) fixed-unlent))
    where
      full : (g : ℕ) → is_full u g ≡ is_full z.heap.table g
      full = by_number (λ g. is_full u g ≡ is_full z.heap.table g) p (ap live_full has ∙ sym not_full) (λ g apart. ap live_full (agree.others g apart))

  -- the master pointers of all others stay
  pub fixed-others : (x : ℕ) → (x ≡ p → ⊥) → slot_of (fixed n z free) x ≡ slot_of z x
  fixed-others x other =
      let apart = ne_eqb x p other in
      same_slot z (fixed n z free) x refl (agree.others x apart) (swapped-contents z free.before Free (Ptr p) free.size free.after free.map x (eqb_swap p x ∙ apart)) refl
