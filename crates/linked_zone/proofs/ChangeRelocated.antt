-- What a zone is once a handle's block is another one, which was free.
use Rattle.std.proofs.Common.{◌≡◌, ℕ, ◌+◌, ◌||◌, true, false, cond, ◌∷◌, Some, refl, ap, sym, ◌∙◌, arith, ne_eqb}
use Rattle.std.proofs.lemmas.List.{map-append}
use Rattle.mac_base.specs.declared.block.Entry.{Entry}
use Rattle.mac_base.specs.declared.block.Kind.TheVariants.{Free, Rel}
use Rattle.mac_base.specs.HeadKind.{head_size}
use Rattle.mac_base.specs.ZoneMap.{block, is_named, contents_of}
use Rattle.mac_base.specs.HandleTable.{EmptyHandle, FullHandle, Live, live_at, live_full, live_handle, live_pointer, bytes_of, is_full, is_lent, no_flags, zeros, refilled, resized}
use Rattle.mac_base.specs.Suits.{slots}
use Rattle.mac_base.specs.ZoneState.{ZoneState}
use Rattle.zone_laws.proofs.Tables.{AgreeBut, live_at-with_live_same, with_live_agrees, in_order-with_live, full_handle, handle_no_pointer, eqb_swap}
use Rattle.zone_laws.proofs.SuitsReleased.{total_size-freed}
use Rattle.linked_zone.specs.Owned.{slot_of, next_free, slot_of_live}
use Rattle.linked_zone.specs.Following.{moved_to}
use Rattle.linked_zone.specs.Places.{FreeAt, BlockOf}
use Rattle.linked_zone.specs.Changes.{freed, pointed, relocated, without_block}
use Rattle.linked_zone.specs.Fit.{Fits}
use Rattle.linked_zone.proofs.ChangeBlock.{swapped-slots, swapped-contents}
use Rattle.linked_zone.proofs.ChangeEmptied.{emptied-map, emptied-fits}
use Rattle.linked_zone.proofs.ChangeExchanged.{moved-slot}
use Rattle.linked_zone.proofs.ChangeParts.{same_slot, Fits-same_map}
use Rattle.linked_zone.proofs.ChangePointed.{pointed-fits, pointed-contents}
use Rattle.linked_zone.proofs.ChangeSized.{Refilled, refilled_block}
use Rattle.linked_zone.proofs.Lent.{loans-kept}

-- a free block of the map is free in the map with the block of h freed
abbrev pub still_free : {at : ℕ} (h : ℕ) (z : ZoneState) → FreeAt z at → FreeAt (without_block h z) at
still_free h z free = record {
  before = freed h free.before;
  size = free.size;
  after = freed h free.after;
  map = ap (freed h) free.map ∙ map-append (λ (e : Entry). cond (is_named h e.kind) (block Free e.size) e) free.before (block Free free.size ∷ free.after);
  place = (let total = total_size-freed h free.before in let place = free.place in omega arith);
}

module _ (z : ZoneState) (h n at : ℕ) (free : FreeAt z at) where
  -- the zone in which the handle is empty, and its block free
  abbrev empty : ZoneState
  empty = without_block h z

  abbrev there : FreeAt empty at
  there = still_free h z free

  abbrev now : ZoneState
  now = relocated h n z free

  abbrev l : Live
  l = refilled (resized n (bytes_of z.heap.table h)) (live_at z.heap.table h)

  agree : AgreeBut h z.heap.table now.heap.table
  agree = with_live_agrees h l z.heap.table

  -- what the others have stays
  pub relocated-live : (y : ℕ) → (y ≡ h → ⊥) → live_at now.heap.table y ≡ live_at z.heap.table y
  relocated-live y other = agree.others y (ne_eqb y h other)

  module _ (from : ℕ) (fits : Fits z) (full : is_full z.heap.table h ≡ true) (unlent : is_lent z.heap.table h ≡ false) (b : BlockOf z h from) where
    fits_empty : Fits empty
    fits_empty = emptied-fits z h fits full from b unlent

    has_empty : live_at empty.heap.table h ≡ Some EmptyHandle
    has_empty = live_at-with_live_same h EmptyHandle z.heap.table

    -- a handle with zeros in the new place
    abbrev zeroed : ZoneState
    zeroed = pointed h n empty there

    fits_zeroed : Fits zeroed
    fits_zeroed = pointed-fits empty h n at there fits_empty has_empty

    has_zeroed : live_at zeroed.heap.table h ≡ Some (FullHandle no_flags (zeros n))
    has_zeroed = live_at-with_live_same h (FullHandle no_flags (zeros n)) empty.heap.table

    -- it has the bytes that are wanted, and its flags
    pub relocated-has : live_at now.heap.table h ≡ Some l
    relocated-has = live_at-with_live_same h l z.heap.table

    pub relocated-filled : Refilled (resized n (bytes_of z.heap.table h)) (live_at z.heap.table h)
    relocated-filled = refilled_block (resized n (bytes_of z.heap.table h)) (live_at z.heap.table h) (ap (λ b. b || live_pointer (live_at z.heap.table h)) full)

    agree_zeroed : AgreeBut h zeroed.heap.table now.heap.table
    agree_zeroed = record {
      others = λ y apart. agree.others y apart
          ∙ sym ((with_live_agrees h (FullHandle no_flags (zeros n)) empty.heap.table).others y apart ∙ (with_live_agrees h EmptyHandle z.heap.table).others y apart);
    }

    -- the zone still fits
    pub relocated-fits : Fits now
    relocated-fits = Fits-same_map zeroed h now.heap.table fits_zeroed agree_zeroed
        (ap live_full relocated-has ∙ relocated-filled.full ∙ full ∙ sym (ap live_full has_zeroed))
        (ap live_pointer relocated-has ∙ relocated-filled.pointer ∙ handle_no_pointer z.heap.table h (full_handle z.heap.table h full) ∙ sym (ap live_pointer has_zeroed))
        (ap live_handle relocated-has ∙ relocated-filled.handle ∙ full_handle z.heap.table h full ∙ sym (ap live_handle has_zeroed))
        (in_order-with_live h l z.heap.table fits.coherent.in_order)
        (loans-kept zeroed.heap now.heap fits_zeroed.loans refl refl)

    -- the slots stay
    pub relocated-slots : slots z.shape now.heap.map ≡ slots z.shape z.heap.map
    relocated-slots =
        swapped-slots empty there.before Free (Rel h) there.size there.after there.map refl
        ∙ ap (slots z.shape) (emptied-map z h fits full from b) ∙ swapped-slots z b.before (Rel h) Free b.size b.after b.map refl

    -- the contents of the handle's block begin after its new header
    pub relocated-contents : contents_of z.shape h now.heap.map ≡ at + head_size z.shape.heads
    relocated-contents = pointed-contents empty h n at there fits_empty has_empty

    -- those of the others stay
    pub relocated-other_contents : (y : ℕ) → (y ≡ h → ⊥) → contents_of z.shape y now.heap.map ≡ contents_of z.shape y z.heap.map
    relocated-other_contents y other =
        let apart = ne_eqb y h other in
        swapped-contents empty there.before Free (Rel h) there.size there.after there.map y (eqb_swap h y ∙ apart)
        ∙ ap (contents_of z.shape y) (emptied-map z h fits full from b) ∙ swapped-contents z b.before (Rel h) Free b.size b.after b.map y (sym (eqb_swap h y ∙ apart))

    -- the handle's master pointer says where they begin, with the flags that it said
    pub relocated-pointer : slot_of now h ≡ moved_to (at + head_size z.shape.heads) (slot_of z h)
    relocated-pointer =
        ap (λ o. slot_of_live z.shape.heads o (contents_of z.shape h now.heap.map) (next_free z.heap.free_slots h)) relocated-has
        ∙ relocated-filled.word z.shape.heads (contents_of z.shape h now.heap.map) (next_free z.heap.free_slots h)
        ∙ ap (λ a. slot_of_live z.shape.heads (live_at z.heap.table h) a (next_free z.heap.free_slots h)) relocated-contents
        ∙ moved-slot z.shape.heads (live_at z.heap.table h) (contents_of z.shape h z.heap.map) (at + head_size z.shape.heads) (next_free z.heap.free_slots h)

    -- all others stay
    pub relocated-others : (y : ℕ) → (y ≡ h → ⊥) → slot_of now y ≡ slot_of z y
    relocated-others y other = same_slot z now y refl (relocated-live y other) (relocated-other_contents y other) refl
