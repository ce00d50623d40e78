-- How the call ends that sets a handle's flags.
use Rattle.std.proofs.Common.{◌≡◌, ℕ, ◌+◌, ◌<◌, Bool, true, false, eqb, List, [], ◌∷◌, ◌++◌, refl, ap, sym, ◌∙◌, subst, Option, Some, None}
use Rattle.std.proofs.lemmas.Bool.{eqb-true}
use Rattle.mac_base.specs.declared.block.Flags.{Flags}
use Rattle.mac_base.specs.declared.block.HeadKind.TheVariants.{Bits24, Bits32}
use Rattle.mac_base.specs.declared.block.Kind.TheVariants as kind
use Rattle.mac_base.specs.HeadKind.{head_size}
use Rattle.mac_base.specs.HandleTable.{Live, EmptyHandle, FullHandle, Pointer, live_at, live_bytes, live_flags, live_full, is_full, is_lent, bytes_of}
use Rattle.mac_base.specs.Heap.{front_slot}
use Rattle.mac_base.specs.ZoneMap.{block, contents_of}
use Rattle.mac_base.specs.ZoneState.{ZoneState}
use Rattle.zone_laws.proofs.Tables.{with_live_agrees, live_at-with_live_same, eqb_same}
use Rattle.zone_records.specs.declared.slot.Slot.TheVariants as slot
use Rattle.zone_records.specs.Changes as records
use Rattle.zone_records.specs.Places as places
use Rattle.zone_records.specs.Places.{can_say, can_flag}
use Rattle.zone_records.specs.Records.{ZoneRecords, handle_record}
use Rattle.linked_zone.specs.Changes.{flagged}
use Rattle.linked_zone.specs.Owned.{owners_of, records_of, slot_flags, header_flags, slot_of, slot_of_live, next_free}
use Rattle.linked_zone.specs.Places.{BlockOf, EntryAt}
use Rattle.linked_zone.proofs.Standing.{Stands, Kept}
use Rattle.linked_zone.proofs.Owning.{image-same}
use Rattle.linked_zone.proofs.Ends.{lower, upper, slot-write, slot-settled, ended-same}
use Rattle.linked_zone.proofs.EndsSaid.{contents-said, entry-below}
use Rattle.linked_zone.proofs.EndsSlots.{own-slot, says-kind}
use Rattle.linked_zone.proofs.EndsSwapped.{with_table, swapped-before, swapped-place, swapped-after}
use Rattle.linked_zone.proofs.ChangeEmptied.{emptied-slot, emptied-contents, emptied-none_before, emptied-none_after}
use Rattle.linked_zone.proofs.ChangeFlagged.{flagged-fits, flagged-pointer, flagged-others, flagged-bytes}

-- where headers say flags, the slot of a handle with a block says none
no_slot_flags : (o : Option Live) (contents next : ℕ) (flags : Flags) → live_full o ≡ true → slot_of_live Bits32 o contents next ≡ slot.Full (slot_flags Bits32 flags) contents
no_slot_flags None contents next flags full = absurd (cc full)
no_slot_flags (Some EmptyHandle) contents next flags full = absurd (cc full)
no_slot_flags (Some (FullHandle old bytes)) contents next flags full = refl
no_slot_flags (Some (Pointer bytes)) contents next flags full = absurd (cc full)

module _ (r : ZoneRecords) (z : ZoneState) (held : Stands r z) (h at : ℕ) (flags : Flags) (full : is_full z.heap.table h ≡ true) (b : BlockOf z h at) where
  abbrev entry : EntryAt z at
  entry = record { before = b.before; here = block (kind.Rel h) b.size; after = b.after; map = b.map; place = b.place }

  abbrev now : ZoneState
  now = flagged h flags z

  -- its contents begin within 32 bits
  pub flags-below : at + head_size z.shape.heads < 0xFFFF_FFFF
  flags-below = entry-below r z held at entry

  -- its slot is one of the blocks'
  pub flags-slot : (k : ℕ) → k ≡ h → places.SlotAt r k
  flags-slot k same = own-slot r z held h k same (emptied-slot z h held.fits full)

  module _ (contents : ℕ) (begins : contents ≡ at + head_size z.shape.heads) (bits : z.shape.heads ≡ Bits24) where
    said_whole : slot_flags z.shape.heads flags ≡ flags
    said_whole = ap (λ k. slot_flags k flags) bits

    -- where slots say flags, it can say these
    pub flags-said : can_say r.shape.heads (slot.Full flags contents) ≡ true
    flags-said = says-kind r z held (slot.Full flags contents)
        (ap (λ g. can_say z.shape.heads (slot.Full g contents)) (sym said_whole) ∙ ap (λ a. can_say z.shape.heads (slot.Full (slot_flags z.shape.heads flags) a)) begins ∙ contents-said r z held at entry flags)

    -- it says them
    pub flags-ends_slot : (k : ℕ) (n : ZoneRecords) → k ≡ h → ((s : places.SlotAt r k) → n ≡ records.with_slot (slot.Full flags contents) r s) → Kept n (flagged h flags z)
    flags-ends_slot k n same writes =
        let there = subst (λ k. (s : places.SlotAt r k) → n ≡ records.with_slot (slot.Full flags contents) r s) same writes in
        ended-same r n z now.heap held refl (flagged-fits z h flags held.fits full)
        (slot-write r z.memory z.shape (front_slot z.heap) (owners_of z) z.heap.map held.blocks held.rooms h (emptied-slot z h held.fits full) n (slot.Full flags contents) there
        ∙ slot-settled z.memory z.shape (front_slot z.heap) (owners_of z) (owners_of now) z.heap.map h (slot.Full flags contents)
        (flagged-pointer z h flags held.fits full ∙ ap (λ g. slot.Full g (contents_of z.shape h z.heap.map)) said_whole ∙ ap (slot.Full flags) (emptied-contents z h held.fits full at b ∙ sym begins))
        (flagged-others z h flags held.fits full) (λ y. ap (λ k. header_flags k (live_flags (live_at now.heap.table y))) bits ∙ sym (ap (λ k. header_flags k (live_flags (live_at z.heap.table y))) bits))
        (flagged-bytes z h flags held.fits full) (λ y. refl))

  abbrev there : places.HandleBlockAt (records_of z) at
  there = record {
    before = lower (owners_of z) z.shape b.before;
    size = b.size;
    handle = h;
    flags = (owners_of z).flags h;
    bytes = (owners_of z).bytes h;
    lent = (owners_of z).lent h;
    after = upper (owners_of z) z.shape b.before (block (kind.Rel h) b.size ∷ []) b.after;
    blocks = swapped-before r z held z.heap h b.before (kind.Rel h) (kind.Rel h) b.size b.after b.map b.map refl;
    place = swapped-place r z held z.heap h b.before (kind.Rel h) (kind.Rel h) b.size b.after b.map b.map refl at b.place;
  }

  -- its block is one of the blocks
  pub flags-block : places.HandleBlockAt r at
  flags-block = subst (λ r. places.HandleBlockAt r at) (sym held.blocks) there

  module _ (bits : z.shape.heads ≡ Bits32) where
    -- where headers say flags, its header can say these
    pub flags-can : can_flag r.shape.heads flags ≡ true
    flags-can = ap (λ (r : ZoneRecords). can_flag r.shape.heads flags) held.blocks ∙ ap (λ k. can_flag k flags) bits

    -- it says them
    pub flags-ends_header : (n : ZoneRecords) → ((b : places.HandleBlockAt r at) → n ≡ records.flagged flags r b) → Kept n (flagged h flags z)
    flags-ends_header n is =
        let has = live_at-with_live_same h (FullHandle flags (bytes_of z.heap.table h)) z.heap.table in
        ended-same r n z now.heap held refl (flagged-fits z h flags held.fits full)
        (swapped-after r z held now.heap h b.before (kind.Rel h) (kind.Rel h) b.size b.after b.map b.map refl n (emptied-none_before z h held.fits full at b) (emptied-none_after z h held.fits full at b)
        (with_live_agrees h (FullHandle flags (bytes_of z.heap.table h)) z.heap.table) (λ y _. refl)
        ((subst (λ (r : ZoneRecords). (b : places.HandleBlockAt r at) → n ≡ records.flagged flags r b) held.blocks is) there
        ∙ ap (λ g. says g (bytes_of z.heap.table h)) (sym (ap (λ l. header_flags z.shape.heads (live_flags l)) has ∙ ap (λ k. header_flags k flags) bits))
        ∙ ap (λ bytes. says (header_flags z.shape.heads (live_flags (live_at now.heap.table h))) bytes) (sym (ap live_bytes has)))
        ∙ sym (image-same z.memory z.shape (front_slot z.heap) (with_table z now) (owners_of now) z.heap.map (λ y _. same_slot y (eqb y h) refl) (λ y. refl) (λ y. refl) (λ y. refl)))
      where
        says : Flags → List ℕ → ZoneRecords
        says g bytes = record { memory = z.memory; shape = z.shape; front = front_slot z.heap; blocks = lower (owners_of z) z.shape b.before ++ handle_record h g bytes b.size (is_lent z.heap.table h) ∷ upper (owners_of z) z.shape b.before (block (kind.Rel h) b.size ∷ []) b.after }

        same_slot : (y : ℕ) (b : Bool) → eqb y h ≡ b → slot_of now y ≡ slot_of z y
        same_slot y false apart = flagged-others z h flags held.fits full y (λ same. absurd (cc (ap (λ x. eqb x h) same ∙ eqb_same h, apart)))
        same_slot y true is = ap (slot_of now) (eqb-true y h is) ∙ flagged-pointer z h flags held.fits full
            ∙ sym (ap (λ k. slot_of_live k (live_at z.heap.table h) (contents_of z.shape h z.heap.map) (next_free z.heap.free_slots h)) bits
            ∙ no_slot_flags (live_at z.heap.table h) (contents_of z.shape h z.heap.map) (next_free z.heap.free_slots h) flags full
            ∙ ap (λ k. slot.Full (slot_flags k flags) (contents_of z.shape h z.heap.map)) (sym bits))
            ∙ ap (slot_of z) (sym (eqb-true y h is))
