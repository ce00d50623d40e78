-- How the calls end that give a handle or a pointer a block and take it back.
use Rattle.std.proofs.Common.{◌≡◌, ℕ, ◌+◌, ◌≤◌, Bool, true, false, [], ◌∷◌, ◌++◌, refl, ap, sym, ◌∙◌, subst, arith, Contains, Some}
use Rattle.std.specs.List.{list_all}
use Rattle.mac_base.specs.declared.block.HeadKind.{HeadKind}
use Rattle.mac_base.specs.declared.block.HeadKind.TheVariants.{Bits24, Bits32}
use Rattle.mac_base.specs.declared.block.Kind.TheVariants as kind
use Rattle.mac_base.specs.HeadKind.{head_size}
use Rattle.mac_base.specs.HandleTable.{EmptyHandle, FullHandle, Pointer, live_at, live_bytes, live_flags, is_full, is_lent, is_pointer, no_flags, zeros}
use Rattle.mac_base.specs.Heap.{front_slot}
use Rattle.mac_base.specs.Suits.{slots}
use Rattle.mac_base.specs.ZoneMap.{ZoneMap, block}
use Rattle.mac_base.specs.ZoneState.{ZoneState}
use Rattle.zone_laws.proofs.Tables.{with_live_agrees, without_agrees, live_at-with_live_same}
use Rattle.zone_records.specs.declared.slot.Slot.TheVariants as slot
use Rattle.zone_records.specs.Changes as records
use Rattle.zone_records.specs.Places as places
use Rattle.zone_records.specs.Records.{ZoneRecords, Relocatable, Fixed, Content}
use Rattle.linked_zone.specs.Changes.{pointed, fixed, unfixed, without_block}
use Rattle.linked_zone.specs.Fit.{has_room}
use Rattle.linked_zone.specs.Owned.{owners_of, records_of, content_of, header_flags, slot_flags}
use Rattle.linked_zone.specs.Places.{RoomFor, BlockOf, NamedAt}
use Rattle.linked_zone.proofs.Standing.{Stands, Kept}
use Rattle.linked_zone.proofs.Owning.{image, image-same}
use Rattle.linked_zone.proofs.Ends.{lower, upper, slot-there, slot-write, slot-settled}
use Rattle.linked_zone.proofs.EndsSwapped.{with_table, room-said, room-there, block-there, swapped-after, swapped-rooms, swapped-ended}
use Rattle.linked_zone.proofs.ChangeBlock.{swapped-slots}
use Rattle.linked_zone.proofs.ChangeParts.{slot-above, slot-no_pointer}
use Rattle.linked_zone.proofs.ChangePointed as p
use Rattle.linked_zone.proofs.ChangeFixed as f
use Rattle.linked_zone.proofs.ChangeUnfixed as u
use Rattle.linked_zone.proofs.ChangeEmptied as e

-- no flags are said by either
no_slot_flags : (heads : HeadKind) → slot_flags heads no_flags ≡ no_flags
no_slot_flags Bits24 = refl
no_slot_flags Bits32 = refl

no_header_flags : (heads : HeadKind) → header_flags heads no_flags ≡ no_flags
no_header_flags Bits24 = refl
no_header_flags Bits32 = refl

-- the blocks with something else in one of them
abbrev other_content : ZoneState → ZoneMap → Content → Bool → ℕ → ZoneMap → ZoneMap → ZoneRecords
other_content z before c l n left following = record { memory = z.memory; shape = z.shape; front = front_slot z.heap; blocks = lower (owners_of z) z.shape before ++ record { size = n; content = c; lent = l } ∷ upper (owners_of z) z.shape before left following }

module _ (r : ZoneRecords) (z : ZoneState) (held : Stands r z) where
  module _ (h n at : ℕ) (empty : live_at z.heap.table h ≡ Some EmptyHandle) (room : RoomFor z at n) where
    abbrev given : ZoneState
    given = pointed h n z room.free

    -- the blocks with the new one are those of the new map
    pub point-placed : (m : ZoneRecords) → ((w : places.RoomFor r at n) → m ≡ records.filled (Relocatable h no_flags (zeros n)) r w.free) → m ≡ image z.memory z.shape (front_slot z.heap) (with_table z given) given.heap.map
    point-placed m is =
        let has = live_at-with_live_same h (FullHandle no_flags (zeros n)) z.heap.table in
        swapped-after r z held given.heap h room.free.before kind.Free (kind.Rel h) room.free.size room.free.after room.free.map refl refl m
        (p.pointed-none_before z h n at room.free held.fits empty) (p.pointed-none_after z h n at room.free held.fits empty) (with_live_agrees h (FullHandle no_flags (zeros n)) z.heap.table) (λ y _. refl)
        ((subst (λ (r : ZoneRecords). (w : places.RoomFor r at n) → m ≡ records.filled (Relocatable h no_flags (zeros n)) r w.free) held.blocks is) (room-there r z held at n room)
        ∙ ap (λ g. other_content z room.free.before (Relocatable h g (zeros n)) false room.free.size (block kind.Free room.free.size ∷ []) room.free.after) (sym (ap (λ l. header_flags z.shape.heads (live_flags l)) has ∙ no_header_flags z.shape.heads))
        ∙ ap (λ bytes. other_content z room.free.before (Relocatable h (header_flags z.shape.heads (live_flags (live_at given.heap.table h))) bytes) false room.free.size (block kind.Free room.free.size ∷ []) room.free.after) (sym (ap live_bytes has))
        ∙ ap (λ l. other_content z room.free.before (content_of (owners_of given) at (kind.Rel h)) l room.free.size (block kind.Free room.free.size ∷ []) room.free.after) (sym (p.pointed-unlent z h n at room.free held.fits empty)))

    -- its number is no lower than the zone
    pub point-above : r.shape.base ≤ h
    point-above = let above = slot-above z.shape z.heap.map h (p.pointed-slot z h n at room.free held.fits empty) in let same : r.shape.base ≡ z.shape.base = ap (λ (r : ZoneRecords). r.shape.base) held.blocks in omega arith

    slot_given : Contains (slots z.shape given.heap.map) h
    slot_given = subst (λ xs. Contains xs h) (sym (swapped-slots z room.free.before kind.Free (kind.Rel h) room.free.size room.free.after room.free.map refl)) (p.pointed-slot z h n at room.free held.fits empty)

    module _ (m : ZoneRecords) (is : (w : places.RoomFor r at n) → m ≡ records.filled (Relocatable h no_flags (zeros n)) r w.free) where
      rooms : list_all (has_room z.shape) given.heap.map ≡ true
      rooms = swapped-rooms r z held given.heap h room.free.before kind.Free (kind.Rel h) room.free.size room.free.after room.free.map refl refl

      -- the handle's slot is among them
      pub point-slot : (k : ℕ) → k ≡ h → places.SlotAt m k
      point-slot k same = subst (λ k. places.SlotAt m k) (sym same) (slot-there m z.memory z.shape (front_slot z.heap) (with_table z given) given.heap.map (point-placed m is) rooms h slot_given)

      -- it can say where the contents begin
      pub point-said : (contents : ℕ) → contents ≡ at + head_size z.shape.heads → places.can_say m.shape.heads (slot.Full no_flags contents) ≡ true
      point-said contents begins =
          ap (λ (m : ZoneRecords). places.can_say m.shape.heads (slot.Full no_flags contents)) (point-placed m is)
          ∙ ap (λ g. places.can_say z.shape.heads (slot.Full g contents)) (sym (no_slot_flags z.shape.heads))
          ∙ ap (λ a. places.can_say z.shape.heads (slot.Full (slot_flags z.shape.heads no_flags) a)) begins ∙ room-said r z held at n room no_flags

      -- it says so
      pub point-ends : (k : ℕ) → k ≡ h → (l : ZoneRecords) (contents : ℕ) → contents ≡ at + head_size z.shape.heads → ((s : places.SlotAt m k) → l ≡ records.with_slot (slot.Full no_flags contents) m s) → Kept l (pointed h n z room.free)
      point-ends k same l contents begins writes =
          let there = subst (λ k. (s : places.SlotAt m k) → l ≡ records.with_slot (slot.Full no_flags contents) m s) same writes in
          swapped-ended r z held given.heap h room.free.before kind.Free (kind.Rel h) room.free.size room.free.after room.free.map refl refl l (p.pointed-fits z h n at room.free held.fits empty)
          (slot-write m z.memory z.shape (front_slot z.heap) (with_table z given) given.heap.map (point-placed m is) rooms h slot_given l (slot.Full no_flags contents) there
          ∙ slot-settled z.memory z.shape (front_slot z.heap) (with_table z given) (owners_of given) given.heap.map h (slot.Full no_flags contents)
          (p.pointed-pointer z h n at room.free held.fits empty ∙ ap (λ g. slot.Full g (at + head_size z.shape.heads)) (no_slot_flags z.shape.heads) ∙ ap (slot.Full no_flags) (sym begins))
          (p.pointed-others z h n at room.free held.fits empty) (λ x. refl) (λ x. refl) (λ x. refl))

  -- a free block is a pointer's
  pub fix-ends : (n at : ℕ) (room : RoomFor z at n) (m : ZoneRecords) → ((w : places.RoomFor r at n) → m ≡ records.filled (Fixed (zeros n)) r w.free) → Kept m (fixed n z room.free)
  fix-ends n at room m is =
      let now = fixed n z room.free in
      let p = at + head_size z.shape.heads in
      let has = live_at-with_live_same p (Pointer (zeros n)) z.heap.table in
      swapped-ended r z held now.heap p room.free.before kind.Free (kind.Ptr p) room.free.size room.free.after room.free.map refl refl m (f.fixed-fits z n at room.free held.fits held.rooms)
      (swapped-after r z held now.heap p room.free.before kind.Free (kind.Ptr p) room.free.size room.free.after room.free.map refl refl m
      (f.fixed-none_before z n at room.free held.fits held.rooms) (f.fixed-none_after z n at room.free held.fits held.rooms) (with_live_agrees p (Pointer (zeros n)) z.heap.table) (λ y _. refl)
      ((subst (λ (r : ZoneRecords). (w : places.RoomFor r at n) → m ≡ records.filled (Fixed (zeros n)) r w.free) held.blocks is) (room-there r z held at n room)
      ∙ ap (λ bytes. other_content z room.free.before (Fixed bytes) false room.free.size (block kind.Free room.free.size ∷ []) room.free.after) (sym (ap live_bytes has))
      ∙ ap (λ l. other_content z room.free.before (content_of (owners_of now) at (kind.Ptr p)) l room.free.size (block kind.Free room.free.size ∷ []) room.free.after) (sym (f.fixed-unlent z n at room.free held.fits held.rooms)))
      ∙ sym (image-same z.memory z.shape (front_slot z.heap) (with_table z now) (owners_of now) now.heap.map (λ y c. f.fixed-others z n at room.free held.fits held.rooms y (λ same. f.fixed-no_slot z n at room.free held.fits held.rooms
      (subst (Contains (slots z.shape z.heap.map)) same (subst (λ xs. Contains xs y) (swapped-slots z room.free.before kind.Free (kind.Ptr p) room.free.size room.free.after room.free.map refl) c)))) (λ y. refl) (λ y. refl) (λ y. refl)))

  module _ (p at : ℕ) (live : is_pointer z.heap.table p ≡ true) (unlent : is_lent z.heap.table p ≡ false) (b : NamedAt z p at) where
    abbrev pointer_block : places.HeldAt (records_of z) at
    pointer_block = block-there r z held z.heap p b.before (kind.Ptr p) (kind.Ptr p) b.here.size b.after (u.unfixed-was z p at held.fits live b) (u.unfixed-was z p at held.fits live b) refl at b.place refl unlent

    -- a pointer's block has its bytes, where they aren't lent
    pub unfix-can : places.HeldAt r at
    unfix-can = subst (λ r. places.HeldAt r at) (sym held.blocks) pointer_block

    -- it is free
    pub unfix-ends : (m : ZoneRecords) → ((w : places.HeldAt r at) → m ≡ records.emptied r w) → Kept m (unfixed p z)
    unfix-ends m is =
        let now = unfixed p z in
        let was = u.unfixed-was z p at held.fits live b in
        let after = u.unfixed-map z p at held.fits live b in
        swapped-ended r z held now.heap p b.before (kind.Ptr p) kind.Free b.here.size b.after was after refl m (u.unfixed-fits z p at held.fits live b unlent)
        (swapped-after r z held now.heap p b.before (kind.Ptr p) kind.Free b.here.size b.after was after refl m (u.unfixed-none_before z p at held.fits live b) (u.unfixed-none_after z p at held.fits live b)
        (without_agrees p z.heap.table) (λ y _. refl) ((subst (λ (r : ZoneRecords). (w : places.HeldAt r at) → m ≡ records.emptied r w) held.blocks is) pointer_block)
        ∙ sym (image-same z.memory z.shape (front_slot z.heap) (with_table z now) (owners_of now) now.heap.map (λ y c. u.unfixed-others z p at held.fits live b y (λ same. absurd (cc (
          ap (is_pointer z.heap.table) same ∙ live,
          slot-no_pointer z y held.fits held.rooms (subst (λ xs. Contains xs y) (ap (slots z.shape) after ∙ swapped-slots z b.before (kind.Ptr p) kind.Free b.here.size b.after was refl) c),
        )))) (λ y. refl) (λ y. refl) (λ y. refl)))

  module _ (h at : ℕ) (full : is_full z.heap.table h ≡ true) (unlent : is_lent z.heap.table h ≡ false) (b : BlockOf z h at) where
    abbrev handle_block : places.HeldAt (records_of z) at
    handle_block = block-there r z held z.heap h b.before (kind.Rel h) (kind.Rel h) b.size b.after b.map b.map refl at b.place refl unlent

    -- a handle's block has its bytes, where they aren't lent
    pub empty-can : places.HeldAt r at
    empty-can = subst (λ r. places.HeldAt r at) (sym held.blocks) handle_block

    abbrev emptied_now : ZoneState
    emptied_now = without_block h z

    after : emptied_now.heap.map ≡ b.before ++ block kind.Free b.size ∷ b.after
    after = e.emptied-map z h held.fits full at b

    slot_emptied : Contains (slots z.shape emptied_now.heap.map) h
    slot_emptied = subst (λ xs. Contains xs h) (sym (ap (slots z.shape) after ∙ swapped-slots z b.before (kind.Rel h) kind.Free b.size b.after b.map refl)) (e.emptied-slot z h held.fits full)

    module _ (m : ZoneRecords) (is : (w : places.HeldAt r at) → m ≡ records.emptied r w) (k : ℕ) (same : k ≡ h) where
      placed : m ≡ image z.memory z.shape (front_slot z.heap) (with_table z emptied_now) emptied_now.heap.map
      placed = swapped-after r z held emptied_now.heap h b.before (kind.Rel h) kind.Free b.size b.after b.map after refl m (e.emptied-none_before z h held.fits full at b) (e.emptied-none_after z h held.fits full at b)
          (with_live_agrees h EmptyHandle z.heap.table) (λ y _. refl) ((subst (λ (r : ZoneRecords). (w : places.HeldAt r at) → m ≡ records.emptied r w) held.blocks is) handle_block)

      rooms_emptied : list_all (has_room z.shape) emptied_now.heap.map ≡ true
      rooms_emptied = swapped-rooms r z held emptied_now.heap h b.before (kind.Rel h) kind.Free b.size b.after b.map after refl

      -- the handle's slot is among the blocks then
      pub empty-slot : places.SlotAt m k
      empty-slot = subst (λ k. places.SlotAt m k) (sym same) (slot-there m z.memory z.shape (front_slot z.heap) (with_table z emptied_now) emptied_now.heap.map placed rooms_emptied h slot_emptied)

      -- it says that the handle is empty
      pub empty-ends : (l : ZoneRecords) → ((s : places.SlotAt m k) → l ≡ records.with_slot slot.Empty m s) → Kept l (without_block h z)
      empty-ends l writes =
          let there = subst (λ k. (s : places.SlotAt m k) → l ≡ records.with_slot slot.Empty m s) same writes in
          swapped-ended r z held emptied_now.heap h b.before (kind.Rel h) kind.Free b.size b.after b.map after refl l (e.emptied-fits z h held.fits full at b unlent)
          (slot-write m z.memory z.shape (front_slot z.heap) (with_table z emptied_now) emptied_now.heap.map placed rooms_emptied h slot_emptied l slot.Empty there
          ∙ slot-settled z.memory z.shape (front_slot z.heap) (with_table z emptied_now) (owners_of emptied_now) emptied_now.heap.map h slot.Empty
          (e.emptied-pointer z h held.fits full at b) (e.emptied-others z h held.fits full at b) (λ x. refl) (λ x. refl) (λ x. refl))
