-- What a zone is once a handle's block is free and the handle empty.
use Rattle.std.proofs.Common.{◌≡◌, ℕ, suc, ◌+◌, Bool, true, false, not, cond, [], ◌∷◌, ◌++◌, length, Some, refl, ap, sym, ◌∙◌, arith, IsTrue, Contains, subst, ne_eqb, length-append}
use Rattle.std.specs.List.{list_all}
use Rattle.std.proofs.lemmas.List.{nil_from_length}
use Rattle.std.proofs.lemmas.Bool.{eqb-true}
use Rattle.mac_base.specs.declared.block.Entry.{Entry}
use Rattle.mac_base.specs.declared.block.Kind.{Kind}
use Rattle.mac_base.specs.declared.block.Kind.TheVariants.{Free, Master, Ptr, Rel}
use Rattle.mac_base.specs.HeadKind.{head_size}
use Rattle.mac_base.specs.ZoneMap.{ZoneMap, block, total_size, addresses, addresses_from, address_after, contents_addresses, contents_of}
use Rattle.mac_base.specs.HandleTable.{HandleTable, EmptyHandle, live_at, live_full, live_handle, live_pointer, is_full, is_handle, is_lent, is_pointer, with_live}
use Rattle.mac_base.specs.Suits.{is_handle_block, is_pointer_block, slots}
use Rattle.mac_base.specs.ZoneState.{ZoneState, with_heap}
use Rattle.zone_laws.proofs.GapAppend.{addresses_from-none}
use Rattle.zone_laws.proofs.Tables.{AgreeBut, live_at-with_live_same, with_live_agrees, in_order-with_live, by_number, eqb_same, eqb_swap, full_handle, handle_no_pointer}
use Rattle.zone_laws.proofs.Owners.{none_named, none_named-from, no_map}
use Rattle.zone_laws.proofs.NamedPlace.{nil-append}
use Rattle.zone_laws.proofs.Maps.{addresses_from-append}
use Rattle.zone_records.specs.declared.slot.Slot.TheVariants as slot
use Rattle.linked_zone.specs.Owned.{slot_of, next_free, slot_of_live}
use Rattle.linked_zone.specs.Places.{BlockOf}
use Rattle.linked_zone.specs.Changes.{freed, without_block}
use Rattle.linked_zone.specs.Fit.{Fits}
use Rattle.linked_zone.proofs.ChangeParts.{same_slot, Fits-kept}
use Rattle.linked_zone.proofs.Lent.{loans-replaced}
use Rattle.linked_zone.proofs.ChangeBlock.{freed-only, none_handle, contents_of-first, swapped-addresses, swapped-slots, swapped-pointers, swapped-contents}

-- the kind of the block of a handle
handle_kind : (h : ℕ) (kind : Kind) → is_handle_block h kind ≡ true → kind ≡ Rel h
handle_kind h Free is = absurd (cc is)
handle_kind h Master is = absurd (cc is)
handle_kind h (Ptr p) is = absurd (cc is)
handle_kind h (Rel g) is = ap (λ x. Rel x) (eqb-true g h is)

-- The block of a handle between others.
record HandleBlock (h : ℕ) (m : ZoneMap) : Type 0 where
  before : ZoneMap
  size : ℕ
  after : ZoneMap
  was : m ≡ before ++ block (Rel h) size ∷ after

-- a handle of which one block is found has one
handle_block-found : (at h : ℕ) (m : ZoneMap) → length (addresses_from at (is_handle_block h) m) ≡ 1 → HandleBlock h m
handle_block-found at h [] one = absurd (omega arith)
handle_block-found at h (e ∷ es) one = elim (is_handle_block h e.kind) as (λ b. is_handle_block h e.kind ≡ b → length (cond b (at ∷ []) [] ++ addresses_from (at + e.size) (is_handle_block h) es) ≡ 1 → HandleBlock h (e ∷ es)) [
  | true ↦ λ here _. record { before = []; size = e.size; after = es; was = ap (λ k. block k e.size ∷ es) (handle_kind h e.kind here) }
  | false ↦ λ other later. let rest = handle_block-found (at + e.size) h es later in
      record { before = e ∷ rest.before; size = rest.size; after = rest.after; was = ap (λ m. e ∷ m) rest.was }
] refl one

-- the place of the block of a handle
pub record OwnBlock (z : ZoneState) (h : ℕ) : Type 0 where
  pub at : ℕ
  pub block : BlockOf z h at
  pub contents : contents_of z.shape h z.heap.map ≡ at + head_size z.shape.heads

module _ (z : ZoneState) (h : ℕ) (fits : Fits z) (full : is_full z.heap.table h ≡ true) where
  no_pointer : is_pointer z.heap.table h ≡ false
  no_pointer = handle_no_pointer z.heap.table h (full_handle z.heap.table h full)

  -- the slot is one of the zone's
  pub emptied-slot : Contains (slots z.shape z.heap.map) h
  emptied-slot = fits.coherent.in_slots h (full_handle z.heap.table h full)

  one : length (addresses z.shape (is_handle_block h) z.heap.map) ≡ 1
  one = fits.coherent.handles h ∙ ap (λ b. cond b 1 0) full

  no_pointers : addresses z.shape (is_pointer_block h) z.heap.map ≡ []
  no_pointers = no_map _ _ (fits.coherent.pointers h ∙ ap (λ b. cond b (h ∷ []) []) no_pointer)

  module _ (at : ℕ) (b : BlockOf z h at) where
    abbrev start : ℕ
    start = address_after z.shape []

    abbrev here : ℕ
    here = start + total_size b.before

    found : length (addresses_from start (is_handle_block h) b.before) + (1 + length (addresses_from (here + b.size) (is_handle_block h) b.after)) ≡ 1
    found =
        let parts = ap (addresses z.shape (is_handle_block h)) b.map ∙ addresses_from-append start (is_handle_block h) b.before (block (Rel h) b.size ∷ b.after)
        ∙ ap (λ c. addresses_from start (is_handle_block h) b.before ++ (cond c (here ∷ []) [] ++ addresses_from (here + b.size) (is_handle_block h) b.after)) (eqb_same h) in
        let lengths : length (addresses_from start (is_handle_block h) b.before) + suc (length (addresses_from (here + b.size) (is_handle_block h) b.after)) ≡ 1 =
        sym (length-append (addresses_from start (is_handle_block h) b.before) (here ∷ addresses_from (here + b.size) (is_handle_block h) b.after)) ∙ sym (ap length parts) ∙ one in
        omega arith

    pointers : (addresses_from start (is_pointer_block h) b.before ≡ []) × (addresses_from (here + b.size) (is_pointer_block h) b.after ≡ [])
    pointers = nil-append _ _ (sym (addresses_from-append start (is_pointer_block h) b.before (block (Rel h) b.size ∷ b.after)) ∙ ap (addresses z.shape (is_pointer_block h)) (sym b.map) ∙ no_pointers)

    -- no block before it bears the handle's name
    pub emptied-none_before : none_named h b.before ≡ true
    emptied-none_before = none_named-from start h b.before (nil_from_length _ (omega (arith, found))) pointers.0

    -- and none after it
    pub emptied-none_after : none_named h b.after ≡ true
    emptied-none_after = none_named-from (here + b.size) h b.after (nil_from_length _ (omega (arith, found))) pointers.1

    -- the contents begin after its header
    pub emptied-contents : contents_of z.shape h z.heap.map ≡ at + head_size z.shape.heads
    emptied-contents = ap (contents_of z.shape h) b.map ∙ contents_of-first z.shape h b.before (block (Rel h) b.size) b.after emptied-none_before (eqb_same h) ∙ ap (λ a. a + head_size z.shape.heads) (sym b.place)

    -- to free what the handle names is to free that block
    pub emptied-map : freed h z.heap.map ≡ b.before ++ block Free b.size ∷ b.after
    emptied-map = freed-only h z.heap.map b.before (block (Rel h) b.size) b.after b.map (eqb_same h) emptied-none_before emptied-none_after

    abbrev u : HandleTable
    u = with_live h EmptyHandle z.heap.table

    abbrev m : ZoneMap
    m = b.before ++ block Free b.size ∷ b.after

    agree : AgreeBut h z.heap.table u
    agree = with_live_agrees h EmptyHandle z.heap.table

    has : live_at u h ≡ Some EmptyHandle
    has = live_at-with_live_same h EmptyHandle z.heap.table

    fits_apart : is_lent z.heap.table h ≡ false → Fits (with_heap (record { table = u; map = m; free_slots = z.heap.free_slots }) z)
    fits_apart unlent = Fits-kept z u m fits
        (by_number (λ g. length (addresses z.shape (is_handle_block g) m) ≡ cond (is_full u g) 1 0) h
        (ap length (none_left (is_handle_block h) refl (none_handle h b.before emptied-none_before) (none_handle h b.after emptied-none_after)) ∙ ap (λ o. cond (live_full o) 1 0) (sym has))
        (λ g apart. ap length (swapped-addresses z b.before (Rel h) Free b.size b.after b.map (is_handle_block g) (sym (eqb_swap h g ∙ apart))) ∙ fits.coherent.handles g ∙ ap (λ o. cond (live_full o) 1 0) (sym (agree.others g apart))))
        (by_number (λ p. contents_addresses z.shape (is_pointer_block p) m ≡ cond (is_pointer u p) (p ∷ []) []) h
        (swapped-pointers z b.before (Rel h) Free b.size b.after b.map h refl ∙ fits.coherent.pointers h ∙ ap (λ c. cond c (h ∷ []) []) no_pointer ∙ ap (λ o. cond (live_pointer o) (h ∷ []) []) (sym has))
        (λ p apart. swapped-pointers z b.before (Rel h) Free b.size b.after b.map p refl ∙ fits.coherent.pointers p ∙ ap (λ o. cond (live_pointer o) (p ∷ []) []) (sym (agree.others p apart))))
        (swapped-slots z b.before (Rel h) Free b.size b.after b.map refl)
        (by_number (λ y. is_handle u y ≡ is_handle z.heap.table y) h (ap live_handle has ∙ sym (full_handle z.heap.table h full)) (λ y apart. ap live_handle (agree.others y apart)))
        (in_order-with_live h EmptyHandle z.heap.table fits.coherent.in_order)
        (loans-replaced z.heap (record { table = u; map = m; free_slots = z.heap.free_slots }) b.before (block (Rel h) b.size ∷ []) (block Free b.size ∷ []) b.after fits.loans refl b.map refl
        (sym (ap (λ c. cond c (h ∷ []) []) unlent)))
      where
        none_left : (test : Kind → Bool) → test Free ≡ false → IsTrue (list_all (λ (e : Entry). not (test e.kind)) b.before) → IsTrue (list_all (λ (e : Entry). not (test e.kind)) b.after) → addresses z.shape test m ≡ []
        none_left test free before after =
            addresses_from-append start test b.before (block Free b.size ∷ b.after)
            ∙ ap (λ found. found ++ addresses_from here test (block Free b.size ∷ b.after)) (addresses_from-none start test b.before before)
            ∙ ap (λ c. cond c (here ∷ []) [] ++ addresses_from (here + b.size) test b.after) free
            ∙ addresses_from-none (here + b.size) test b.after after

    -- the zone still fits, where the handle isn't lent
    pub emptied-fits : is_lent z.heap.table h ≡ false → Fits (without_block h z)
    emptied-fits unlent = subst (λ m. Fits (with_heap (record { table = u; map = m; free_slots = z.heap.free_slots }) z)) (sym emptied-map) (fits_apart unlent)

    -- its master pointer says that it is empty
    pub emptied-pointer : slot_of (without_block h z) h ≡ slot.Empty
    emptied-pointer = ap (λ o. (slot_of_live z.shape.heads o (contents_of z.shape h (freed h z.heap.map)) (next_free z.heap.free_slots h))) has

    -- all others stay
    pub emptied-others : (x : ℕ) → (x ≡ h → ⊥) → slot_of (without_block h z) x ≡ slot_of z x
    emptied-others x other =
        let apart = ne_eqb x h other in
        same_slot z (without_block h z) x refl (agree.others x apart)
        (ap (contents_of z.shape x) emptied-map ∙ swapped-contents z b.before (Rel h) Free b.size b.after b.map x (sym (eqb_swap h x ∙ apart))) refl

  -- the handle's block
  pub own_block : OwnBlock z h
  own_block = record { at = address_after z.shape there.before; block = place; contents = emptied-contents (address_after z.shape there.before) place }
    where
      there : HandleBlock h z.heap.map
      there = handle_block-found (address_after z.shape []) h z.heap.map one

      place : BlockOf z h (address_after z.shape there.before)
      place = record { before = there.before; size = there.size; after = there.after; map = there.was; place = refl }
