-- How the call ends that gives a handle's block another place.
use Rattle.std.proofs.Common.{◌≡◌, ℕ, ◌+◌, ◌-◌, ◌≤◌, min, true, false, eqb, List, ◌∷◌, ◌++◌, length, take, drop, refl, ap, sym, ◌∙◌, subst, arith, Contains, length-take-le}
use Rattle.std.specs.List.{list_all}
use Rattle.std.proofs.Math.Nat.{min-le_left, min-le_right, min_comm}
use Rattle.std.proofs.lemmas.List.{take_min, drop-replicate, length-replicate}
use Rattle.std.proofs.lemmas.Bool.{and_from}
use Rattle.mac_base.specs.declared.block.Entry.{Entry}
use Rattle.mac_base.specs.declared.block.Flags.{Flags}
use Rattle.mac_base.specs.declared.block.Kind.TheVariants as kind
use Rattle.mac_base.specs.HeadKind.{head_size, zone_header}
use Rattle.mac_base.specs.HandleTable.{live_bytes, live_flags, flags_of, bytes_of, is_full, is_lent, no_flags, resized, zeros}
use Rattle.mac_base.specs.Heap.{front_slot}
use Rattle.mac_base.specs.Suits.{is_block_size}
use Rattle.mac_base.specs.ZoneMap.{block, total_size}
use Rattle.mac_base.specs.ZoneState.{ZoneState, written}
use Rattle.zone_laws.proofs.Maps.{Exchanged, list_all-exchanged, total_size-exchanged}
use Rattle.zone_laws.proofs.Tables.{eqb_same}
use Rattle.zone_records.specs.Changes as records
use Rattle.zone_records.specs.Copying as copying
use Rattle.zone_records.specs.Places as places
use Rattle.zone_records.specs.Places.{can_flag, can_say}
use Rattle.zone_records.specs.Records.{BlockRecord, ZoneRecords, Relocatable, Free, block_record, handle_record, length_of}
use Rattle.linked_zone.specs.Changes.{relocated, without_block}
use Rattle.linked_zone.specs.Fit.{has_room}
use Rattle.linked_zone.specs.Following.{moved_to, CanFollow, followed}
use Rattle.linked_zone.specs.Owned.{Owners, owners_of, header_flags, slot_of}
use Rattle.linked_zone.specs.Places.{RoomFor, BlockOf}
use Rattle.linked_zone.proofs.Standing.{Stands, Kept, kept}
use Rattle.linked_zone.proofs.Owning.{image, SameOf}
use Rattle.linked_zone.proofs.Found.{of-handle}
use Rattle.linked_zone.proofs.Located.{of-entry}
use Rattle.linked_zone.proofs.Ends.{slot-settled}
use Rattle.linked_zone.proofs.Movable.{moved-said}
use Rattle.linked_zone.proofs.EndsFollow.{Follows, following-can, following-image}
use Rattle.linked_zone.proofs.EndsSaid.{flags-said, size-room}
use Rattle.linked_zone.proofs.EndsSized.{flags-stay}
use Rattle.linked_zone.proofs.EndsSwapped.{with_table, block_swapped, swapped-size, length-had, room-size, room-said}
use Rattle.linked_zone.proofs.ChangeEmptied.{emptied-slot, emptied-map}
use Rattle.linked_zone.proofs.ChangeParts.{slot-above}
use Rattle.linked_zone.proofs.ChangeRelocated.{still_free, relocated-live, relocated-has, relocated-filled, relocated-fits, relocated-slots, relocated-pointer, relocated-others}
use Rattle.linked_zone.proofs.RelocatedPlaces.{Moving, moving}
use Rattle.linked_zone.proofs.TwoPlaces.{TwoPlaces}

-- as many zeros as are left after the first bytes of some
zeros_left : (n all some : ℕ) → some ≡ min all n → n - (0 + some) ≡ n - all
zeros_left n all some is = omega arith

-- the first bytes of some, as far as they go, over n bytes of zero
over-zeros : (n kept : ℕ) (bytes : List ℕ) → kept ≡ min (length bytes) n → written 0 (take kept bytes) (zeros n) ≡ resized n bytes
over-zeros n kept bytes is =
    let low = min-le_left (length bytes) n in
    let long : length (take kept bytes) ≡ kept = length-take-le kept bytes (omega arith) in
    ap (λ xs. xs ++ drop (0 + length (take kept bytes)) (zeros n)) (ap (λ k. take k bytes) (is ∙ min_comm (length bytes) n) ∙ take_min n bytes)
    ∙ ap (λ xs. take n bytes ++ xs) (drop-replicate (0 + length (take kept bytes)) n 0 ∙ ap zeros (zeros_left n (length bytes) (length (take kept bytes)) (long ∙ is)))

module _ (r : ZoneRecords) (z : ZoneState) (held : Stands r z) (h n from at : ℕ) (full : is_full z.heap.table h ≡ true) (unlent : is_lent z.heap.table h ≡ false) (b : BlockOf z h from) (room : RoomFor z at n) where
  abbrev now : ZoneState
  now = relocated h n z room.free

  -- the owners of the old slots, with what the new zone has
  abbrev q : Owners
  q = with_table z now

  -- the flags that a header says of the handle, and its bytes
  abbrev flags : Flags
  flags = header_flags z.shape.heads (flags_of z.heap.table h)

  abbrev bytes : List ℕ
  bytes = bytes_of z.heap.table h

  there : Moving z h n from at b room.free
  there = moving z h n from at held.fits full b room.free

  abbrev p : TwoPlaces z.shape from at b.size room.free.size
  p = there.places

  -- the blocks with these in the two places
  abbrev both : BlockRecord → BlockRecord → ZoneRecords
  both x y = record { memory = z.memory; shape = z.shape; front = front_slot z.heap; blocks = p.listed x y }

  -- what was there, and what is in the new place
  abbrev old : BlockRecord
  old = block_record (Relocatable h flags bytes) b.size

  abbrev free : BlockRecord
  free = block_record Free room.free.size

  abbrev new : Flags → List ℕ → BlockRecord
  new f bs = block_record (Relocatable h f bs) room.free.size

  at_first : r ≡ both old free
  at_first = held.blocks ∙ ap (λ bs. record { memory = z.memory; shape = z.shape; front = front_slot z.heap; blocks = bs })
      (there.was ∙ ap (λ l. p.listed (handle_record h flags bytes b.size l) free) unlent)

  -- ---- what is read

  -- the handle's block is one
  pub relocate-block : places.HandleBlockAt r from
  relocate-block = (of-handle r z held h from b).there

  pub relocate-record : places.RecordAt r from
  relocate-record = (of-entry r z held.blocks from (record { before = b.before; here = block (kind.Rel h) b.size; after = b.after; map = b.map; place = b.place })).there

  -- the flags that its header says
  pub relocate-flags : (f : Flags) → ((w : places.HandleBlockAt r from) → f ≡ w.flags) → f ≡ flags
  relocate-flags f says = let mine = of-handle r z held h from b in says mine.there ∙ mine.says

  -- how many bytes it has
  abbrev record_there : places.RecordAt (both old free) from
  record_there = record { before = p.before_from free; here = old; after = p.after_from free; blocks = p.from_is old free; place = p.from_place free refl }

  pub relocate-length : (k : ℕ) → ((w : places.RecordAt r from) → k ≡ length_of w.here.content) → k ≡ length bytes
  relocate-length k says = (subst (λ (r : ZoneRecords). (w : places.RecordAt r from) → k ≡ length_of w.here.content) at_first says) record_there

  -- the handle's number is no lower than the zone
  pub relocate-above : r.shape.base ≤ h
  relocate-above = let above = slot-above z.shape z.heap.map h (emptied-slot z h held.fits full) in let same : r.shape.base ≡ z.shape.base = ap (λ (r : ZoneRecords). r.shape.base) held.blocks in omega arith

  -- ---- the new block

  abbrev free_there : places.RoomFor (both old free) at n
  free_there = record {
    free = record { before = p.before_to old; size = room.free.size; after = p.after_to old; blocks = p.to_is old free; place = p.to_place old refl };
    room = length-had z.shape room.free.size n (room-size r z held at n room) room.room;
  }

  -- another block in the new place
  in_new : (x y : BlockRecord) → record { memory = z.memory; shape = z.shape; front = front_slot z.heap; blocks = p.before_to x ++ y ∷ p.after_to x } ≡ both x y
  in_new x y = ap (λ bs. record { memory = z.memory; shape = z.shape; front = front_slot z.heap; blocks = bs }) (sym (p.to_is x y))

  -- and in the old one
  in_old : (x y : BlockRecord) → record { memory = z.memory; shape = z.shape; front = front_slot z.heap; blocks = p.before_from y ++ x ∷ p.after_from y } ≡ both x y
  in_old x y = ap (λ bs. record { memory = z.memory; shape = z.shape; front = front_slot z.heap; blocks = bs }) (sym (p.from_is x y))

  module _ (m : ZoneRecords) (is : (w : places.RoomFor r at n) → m ≡ records.filled (Relocatable h no_flags (zeros n)) r w.free) where
    -- it has bytes of zero and no flags
    zeroed : m ≡ both old (new no_flags (zeros n))
    zeroed = (subst (λ (r : ZoneRecords). (w : places.RoomFor r at n) → m ≡ records.filled (Relocatable h no_flags (zeros n)) r w.free) at_first is) free_there ∙ in_new old (new no_flags (zeros n))

    abbrev flag_there : places.HandleBlockAt (both old (new no_flags (zeros n))) at
    flag_there = record {
      before = p.before_to old;
      size = room.free.size;
      handle = h;
      flags = no_flags;
      bytes = zeros n;
      lent = false;
      after = p.after_to old;
      blocks = p.to_is old (new no_flags (zeros n));
      place = p.to_place old refl;
    }

    -- it is a handle's
    pub relocate-placed : places.HandleBlockAt m at
    relocate-placed = subst (λ m. places.HandleBlockAt m at) (sym zeroed) flag_there

    module _ (f : Flags) (flags_are : f ≡ flags) where
      -- its header can say the flags
      pub relocate-can_flag : can_flag m.shape.heads f ≡ true
      relocate-can_flag = ap (λ (m : ZoneRecords). can_flag m.shape.heads f) zeroed ∙ ap (can_flag z.shape.heads) flags_are ∙ flags-said z.shape.heads (flags_of z.heap.table h)

      module _ (m2 : ZoneRecords) (is2 : (w : places.HandleBlockAt m at) → m2 ≡ records.flagged f m w) where
        -- it says them
        marked : m2 ≡ both old (new flags (zeros n))
        marked = (subst (λ (m : ZoneRecords). (w : places.HandleBlockAt m at) → m2 ≡ records.flagged f m w) zeroed is2) flag_there ∙ in_new old (new f (zeros n)) ∙ ap (λ g. both old (new g (zeros n))) flags_are

        module _ (kept_bytes : ℕ) (few : kept_bytes ≡ min (length bytes) n) where
          abbrev copy_there : copying.CanCopy (both old (new flags (zeros n))) from 0 at 0 kept_bytes
          copy_there = record {
            source = record {
              before = p.before_from (new flags (zeros n));
              size = b.size;
              content = Relocatable h flags bytes;
              after = p.after_from (new flags (zeros n));
              blocks = p.from_is old (new flags (zeros n));
              place = p.from_place (new flags (zeros n)) refl;
              held = refl;
            };
            target = record {
              before = p.before_to old;
              size = room.free.size;
              content = Relocatable h flags (zeros n);
              after = p.after_to old;
              blocks = p.to_is old (new flags (zeros n));
              place = p.to_place old refl;
              held = refl;
            };
            within_source = (let low = min-le_left (length bytes) n in omega arith);
            within_target = (let high = min-le_right (length bytes) n in let all : length (zeros n) ≡ n = length-replicate {A = ℕ} n 0 in omega arith);
          }

          -- the bytes can be copied
          pub relocate-can_copy : copying.CanCopy m2 from 0 at 0 kept_bytes
          relocate-can_copy = subst (λ m. copying.CanCopy m from 0 at 0 kept_bytes) (sym marked) copy_there

          module _ (m3 : ZoneRecords) (is3 : (w : copying.CanCopy m2 from 0 at 0 kept_bytes) → m3 ≡ copying.copied m2 w) where
            -- it has them
            filled : m3 ≡ both old (new flags (resized n bytes))
            filled = (subst (λ (m : ZoneRecords). (w : copying.CanCopy m from 0 at 0 kept_bytes) → m3 ≡ copying.copied m w) marked is3) copy_there
                ∙ in_new old (new flags (written 0 (take kept_bytes bytes) (zeros n))) ∙ ap (λ bs. both old (new flags bs)) (over-zeros n kept_bytes bytes few)

            abbrev old_there : places.HeldAt (both old (new flags (resized n bytes))) from
            old_there = record {
              before = p.before_from (new flags (resized n bytes));
              size = b.size;
              content = Relocatable h flags bytes;
              after = p.after_from (new flags (resized n bytes));
              blocks = p.from_is old (new flags (resized n bytes));
              place = p.from_place (new flags (resized n bytes)) refl;
              held = refl;
            }

            -- the old block can be free
            pub relocate-held : places.HeldAt m3 from
            relocate-held = subst (λ m. places.HeldAt m from) (sym filled) old_there

            module _ (m4 : ZoneRecords) (is4 : (w : places.HeldAt m3 from) → m4 ≡ records.emptied m3 w) where
              emptied : m4 ≡ both (block_record Free b.size) (new flags (resized n bytes))
              emptied = (subst (λ (m : ZoneRecords). (w : places.HeldAt m from) → m4 ≡ records.emptied m w) filled is4) old_there ∙ in_old (block_record Free b.size) (new flags (resized n bytes))

              -- what the new zone has of the handle
              new_flags : q.flags h ≡ flags
              new_flags = ap (header_flags z.shape.heads) (flags-stay h (resized n bytes) z.heap.table h)

              new_bytes : q.bytes h ≡ resized n bytes
              new_bytes = ap live_bytes (relocated-has z h n at room.free from held.fits full unlent b) ∙ (relocated-filled z h n at room.free from held.fits full unlent b).holds

              others : (y : ℕ) → eqb y h ≡ false → SameOf (owners_of z) q y
              others y apart =
                  let live = relocated-live z h n at room.free y (λ is. absurd (cc (apart, ap (λ x. eqb x h) is, eqb_same h))) in
                  (ap (λ l. header_flags z.shape.heads (live_flags l)) live, ap live_bytes live, refl)

              placed : m4 ≡ image z.memory z.shape (front_slot z.heap) q now.heap.map
              placed = emptied ∙ sym (ap (λ bs. record { memory = z.memory; shape = z.shape; front = front_slot z.heap; blocks = bs })
                  (there.is q (λ y. refl) others ∙ (λ i. p.listed (block_record Free b.size) (handle_record h (new_flags i) (new_bytes i) room.free.size (unlent i)))))

              -- ---- sizes

              abbrev cleared : Exchanged z.heap.map (without_block h z).heap.map
              cleared = block_swapped z.heap.map (without_block h z).heap.map b.before (kind.Rel h) kind.Free b.size b.after b.map (emptied-map z h held.fits full from b)

              abbrev taken_up : Exchanged (without_block h z).heap.map now.heap.map
              taken_up = let f = still_free h z room.free in block_swapped (without_block h z).heap.map now.heap.map f.before kind.Free (kind.Rel h) f.size f.after f.map refl

              old_size : is_block_size z.shape b.size ≡ true
              old_size = swapped-size r z held z.heap h b.before (kind.Rel h) (kind.Rel h) b.size b.after b.map b.map refl

              new_size : is_block_size z.shape room.free.size ≡ true
              new_size = room-size r z held at n room

              sizes_now : list_all (λ (e : Entry). is_block_size z.shape e.size) now.heap.map ≡ true
              sizes_now = list_all-exchanged (without_block h z).heap.map now.heap.map taken_up (λ (e : Entry). is_block_size z.shape e.size) (and_from (is_block_size z.shape room.free.size) true new_size refl)
                  (list_all-exchanged z.heap.map (without_block h z).heap.map cleared (λ (e : Entry). is_block_size z.shape e.size) (and_from (is_block_size z.shape b.size) true old_size refl) held.sizes)

              rooms_now : list_all (has_room z.shape) now.heap.map ≡ true
              rooms_now = list_all-exchanged (without_block h z).heap.map now.heap.map taken_up (has_room z.shape)
                  (and_from (has_room z.shape (block (kind.Rel h) room.free.size)) true (size-room z.shape (kind.Rel h) room.free.size refl new_size) refl)
                  (list_all-exchanged z.heap.map (without_block h z).heap.map cleared (has_room z.shape)
                  (and_from (has_room z.shape (block kind.Free b.size)) true (size-room z.shape kind.Free b.size refl old_size) refl) held.rooms)

              within_now : zone_header + total_size now.heap.map ≤ z.shape.limit
              within_now =
                  let first = total_size-exchanged z.heap.map (without_block h z).heap.map cleared in
                  let second = total_size-exchanged (without_block h z).heap.map now.heap.map taken_up in
                  let within = held.within in
                  omega arith

              -- ---- the slot

              module _ (contents : ℕ) (begins : contents ≡ at + head_size z.shape.heads) where
                -- the handle's slot can say where its contents are
                follows : Follows q z.shape now.heap.map (kind.Rel h) contents
                follows = (
                  subst (λ xs. Contains xs h) (sym (relocated-slots z h n at room.free from held.fits full unlent b)) (emptied-slot z h held.fits full),
                  ap (λ a. can_say z.shape.heads (moved_to a (slot_of z h))) begins ∙ moved-said z.shape.heads _ _ (at + head_size z.shape.heads) _ full (room-said r z held at n room),
                )

                pub relocate-follows : CanFollow m4 (kind.Rel h) contents
                relocate-follows = following-can z.memory z.shape (front_slot z.heap) q now.heap.map rooms_now contents m4 (kind.Rel h) placed follows

                -- it says so
                pub relocate-ends : (m5 : ZoneRecords) → ((can : CanFollow m4 (kind.Rel h) contents) → m5 ≡ followed m4 (kind.Rel h) contents can) → Kept m5 (relocated h n z room.free)
                relocate-ends m5 is5 = kept m5 now (record {
                  blocks = following-image z.memory z.shape (front_slot z.heap) q now.heap.map rooms_now contents m4 m5 (kind.Rel h) placed follows is5
                      ∙ slot-settled z.memory z.shape (front_slot z.heap) q (owners_of now) now.heap.map h (moved_to contents (slot_of z h))
                      (relocated-pointer z h n at room.free from held.fits full unlent b ∙ ap (λ a. moved_to a (slot_of z h)) (sym begins))
                      (relocated-others z h n at room.free from held.fits full unlent b) (λ y. refl) (λ y. refl) (λ y. refl);
                  fits = relocated-fits z h n at room.free from held.fits full unlent b;
                  sizes = sizes_now;
                  rooms = rooms_now;
                  within = within_now;
                  even = held.even;
                  low = held.low;
                  high = held.high;
                })
