-- How the calls end that give a handle or a pointer another number of bytes where its block is.
use Rattle.std.proofs.Common.{◌≡◌, ℕ, ◌+◌, ◌-◌, ◌==◌, Bool, true, false, eqb, List, [], ◌∷◌, ◌++◌, refl, ap, sym, ◌∙◌, subst, arith, append_assoc, inl, inr, ◌⊎◌, cond, Option, Some, None}
use Rattle.std.specs.List.{list_all}
use Rattle.std.proofs.lemmas.Bool.Decides.{nat_tests}
use Rattle.std.proofs.lemmas.List.Folds.{list_all-append}
use Rattle.std.proofs.lemmas.Bool.{and_parts, and_from, eqb-true}
use Rattle.mac_base.specs.declared.block.Entry.{Entry}
use Rattle.mac_base.specs.declared.block.Kind.{Kind}
use Rattle.mac_base.specs.declared.block.Kind.TheVariants as kind
use Rattle.mac_base.specs.HeadKind.{Shape, head_size}
use Rattle.mac_base.specs.HandleTable.{HandleTable, Live, EmptyHandle, FullHandle, Pointer, live_at, live_flags, flags_of, bytes_of, refilled, resized, with_bytes, has_block, is_lent}
use Rattle.mac_base.specs.Heap.{front_slot}
use Rattle.mac_base.specs.Suits.{is_block_size}
use Rattle.mac_base.specs.ZoneMap.{ZoneMap, block, free_block, is_master, is_named, total_size, address_after}
use Rattle.mac_base.specs.ZoneState.{ZoneState}
use Rattle.zone_laws.proofs.Owners.{none_named}
use Rattle.zone_laws.proofs.Tables.{eqb_same, live_at-with_live}
use Rattle.zone_records.specs.Records.{ZoneRecords, BlockRecord, block_record}
use Rattle.zone_records.specs.Records as records
use Rattle.zone_records.specs.Changes as changes
use Rattle.zone_records.specs.Places as places
use Rattle.linked_zone.specs.Changes.{held_there, enlarged}
use Rattle.linked_zone.specs.Fit.{Fits, has_room}
use Rattle.linked_zone.specs.Owned.{Owners, owners_of, header_flags, content_of, lent_of, records_from, records_of}
use Rattle.linked_zone.specs.Places.{NamedAt, CanFront, CanHold, CanGrow}
use Rattle.linked_zone.proofs.Standing.{Stands, Kept}
use Rattle.linked_zone.proofs.Owning.{SameOf, same_but}
use Rattle.linked_zone.proofs.Ends.{lower, middle, upper, parts-before, parts-place, parts-after, ended}
use Rattle.linked_zone.proofs.EndsSaid.{size-room}
use Rattle.linked_zone.proofs.EndsSwapped.{length-had}
use Rattle.linked_zone.proofs.ChangeSized.{Room, sized_zone, sized_exchange, sized-one, sized-fits, sized-pointers, sized-bytes, sized-other_bytes, names-one, named-contents}
use Rattle.linked_zone.proofs.Found.{named-held, named-lent}

-- ---- flags

-- what has other bytes has the flags that it had
live-flags : (bytes : List ℕ) (o : Option Live) → live_flags (Some (refilled bytes o)) ≡ live_flags o
live-flags bytes None = refl
live-flags bytes (Some EmptyHandle) = refl
live-flags bytes (Some (FullHandle flags old)) = refl
live-flags bytes (Some (Pointer old)) = refl

-- so all flags stay
pub flags-stay : (x : ℕ) (bytes : List ℕ) (t : HandleTable) (y : ℕ) → flags_of (with_bytes x bytes t) y ≡ flags_of t y
flags-stay x bytes t y = ap live_flags (live_at-with_live x (refilled bytes (live_at t x)) t y) ∙ by_test (eqb y x) refl
  where
    by_test : (b : Bool) → eqb y x ≡ b → live_flags (cond b (Some (refilled bytes (live_at t x))) (live_at t y)) ≡ live_flags (live_at t y)
    by_test true is = live-flags bytes (live_at t x) ∙ ap (λ n. live_flags (live_at t n)) (sym (eqb-true y x is))
    by_test false is = refl

-- ---- a block with other bytes

-- what is in the block that x names, for owners of whom x has other bytes
pub content-named : (o q : Owners) (at x : ℕ) (k : Kind) → is_named x k ≡ true → q.flags x ≡ o.flags x → content_of q at k ≡ records.with_bytes (q.bytes x) (content_of o at k)
content-named o q at x kind.Free named flags = absurd (cc named)
content-named o q at x kind.Master named flags = absurd (cc named)
content-named o q at x (kind.Ptr p) named flags = ap (λ p. records.Fixed (q.bytes p)) (eqb-true p x named)
content-named o q at x (kind.Rel h) named flags = let is = eqb-true h x named in
    ap (λ y. records.Relocatable h (q.flags y) (q.bytes y)) is ∙ ap (λ f. records.Relocatable h f (q.bytes x)) (flags ∙ ap o.flags (sym is))

-- it is no master block
pub named-other : (x : ℕ) (k : Kind) → is_named x k ≡ true → is_master k ≡ false
named-other x kind.Free named = refl
named-other x kind.Master named = absurd (cc named)
named-other x (kind.Ptr p) named = refl
named-other x (kind.Rel h) named = refl

-- what is over is a free block, or nothing
free-record : (o : Owners) (s : Shape) (at n : ℕ) → records_from o s at (free_block n) ≡ changes.free_record n
free-record o s at n = elim (n == 0) as (λ b. records_from o s at (cond b [] (block kind.Free n ∷ [])) ≡ cond b [] (block_record records.Free n ∷ [])) [ true ↦ refl | false ↦ refl ]

-- it passes what a free block of so many bytes does
free-passes : (p : Entry → Bool) (n : ℕ) → ((n == 0) ≡ false → p (block kind.Free n) ≡ true) → list_all p (free_block n) ≡ true
free-passes p n is = by_test (n == 0) refl
  where
    by_test : (b : Bool) → (n == 0) ≡ b → list_all p (cond b [] (block kind.Free n ∷ [])) ≡ true
    by_test true none = refl
    by_test false some = and_from (p (block kind.Free n)) true (is some) refl

module _ (r : ZoneRecords) (z : ZoneState) (held : Stands r z) (x whole size n : ℕ) (unlent : is_lent z.heap.table x ≡ false) (room : Room z x whole size n) where
  -- the zone then, and its owners
  abbrev pub now : ZoneState
  now = sized_zone z x whole size n held.fits room

  abbrev there : ℕ
  there = (address_after z.shape [] + total_size room.before) + head_size z.shape.heads

  -- so many bytes can be a block, or none is over
  over-size : (whole - size == 0) ≡ false → is_block_size z.shape (whole - size) ≡ true
  over-size some = by_case room.fits.rest
    where
      by_case : (size ≡ whole) ⊎ (is_block_size z.shape (whole - size) ≡ true) → is_block_size z.shape (whole - size) ≡ true
      by_case (inl all) = absurd (none (whole - size) some (omega arith))
        where
          none : (k : ℕ) → (k == 0) ≡ false → k ≡ 0 → ⊥
          none k some is = grind (arith, nat_tests)
      by_case (inr rest) = rest

  -- with the other bytes in the first of them the blocks stand for the zone
  pub sized-ends : (m : ZoneRecords) → m ≡ record {
    memory = z.memory;
    shape = z.shape;
    front = front_slot z.heap;
    blocks = lower (owners_of z) z.shape room.before ++ block_record (changes.sized n (content_of (owners_of z) there room.here.kind)) size ∷ changes.free_record (whole - size)
        ++ upper (owners_of z) z.shape room.before (room.here ∷ room.room) room.after;
  } → Kept m now
  sized-ends m is =
      let o = owners_of z in
      let q = owners_of now in
      let one = sized-one z x whole size n held.fits room in
      let none_after = (and_parts (none_named x room.room) (none_named x room.after) (sym (list_all-append _ room.room room.after) ∙ one.none_after)).1 in
      let same : (y : ℕ) → eqb y x ≡ false → SameOf o q y = λ y apart.
      (ap (header_flags z.shape.heads) (flags-stay x (resized n (bytes_of z.heap.table x)) z.heap.table y), sized-other_bytes z x whole size n held.fits room y (λ is. absurd (cc (apart, is, eqb_same x))), refl) in
      let content : content_of q there room.here.kind ≡ changes.sized n (content_of o there room.here.kind) =
      content-named o q there x room.here.kind room.named (ap (header_flags z.shape.heads) (flags-stay x (resized n (bytes_of z.heap.table x)) z.heap.table x))
      ∙ ap (λ bytes. records.with_bytes bytes (content_of o there room.here.kind)) (sized-bytes z x whole size n held.fits room ∙ ap (resized n) (sym (named-held o there x room.here.kind room.named).1)) in
      let above = upper o z.shape room.before (room.here ∷ room.room) room.after in
      let part : middle q z.shape room.before (block room.here.kind size ∷ free_block (whole - size)) ≡ block_record (changes.sized n (content_of o there room.here.kind)) size ∷ changes.free_record (whole - size) =
      ap (λ c. record { size = size; content = c; lent = lent_of q room.here.kind } ∷ records_from q z.shape ((address_after z.shape [] + total_size room.before) + size) (free_block (whole - size))) content
      ∙ ap (λ l. record { size = size; content = changes.sized n (content_of o there room.here.kind); lent = l } ∷ records_from q z.shape ((address_after z.shape [] + total_size room.before) + size) (free_block (whole - size))) (named-lent q x room.here.kind room.named ∙ unlent)
      ∙ ap (λ bs. block_record (changes.sized n (content_of o there room.here.kind)) size ∷ bs) (free-record q z.shape ((address_after z.shape [] + total_size room.before) + size) (whole - size)) in
      ended z now.heap (sized_exchange z x whole size n held.fits room) r m held (sized-fits z x whole size n held.fits room)
      (and_from (is_block_size z.shape size) _ room.fits.front (free-passes (λ (e : Entry). is_block_size z.shape e.size) (whole - size) over-size))
      (and_from (has_room z.shape (block room.here.kind size)) _ (size-room z.shape room.here.kind size (named-other x room.here.kind room.named) room.fits.front)
      (free-passes (has_room z.shape) (whole - size) (λ some. size-room z.shape kind.Free (whole - size) refl (over-size some))))
      (parts-after z now.heap (sized_exchange z x whole size n held.fits room) m (front_slot z.heap) q (λ y c. sized-pointers z x whole size n held.fits room y) (λ y c. sized-pointers z x whole size n held.fits room y)
      (same_but o q x room.before one.none_before same) (same_but o q x room.after none_after same)
      (is ∙ ap (λ bs. record { memory = z.memory; shape = z.shape; front = front_slot z.heap; blocks = bs })
      (append_assoc (lower o z.shape room.before) (block_record (changes.sized n (content_of o there room.here.kind)) size ∷ changes.free_record (whole - size)) above
      ∙ ap (λ bs. lower o z.shape room.before ++ (bs ++ above)) (sym part))))

-- ---- hold and grow

-- the front that is wanted can be had of the blocks
front-had : (s : Shape) (whole size n : ℕ) → CanFront s whole size n → places.CanFront s whole size n
front-had s whole size n fits = record { within = fits.within; front = length-had s size n fits.front fits.room; rest = fits.rest }

-- a block that x names is at its place
named-place : (z : ZoneState) (x at : ℕ) (before : ZoneMap) (e : Entry) (after : ZoneMap) → Fits z → z.heap.map ≡ before ++ e ∷ after → is_named x e.kind ≡ true → NamedAt z x at → at ≡ address_after z.shape before
named-place z x at before e after fits map named there =
    let here = named-contents z x before e after fits map named in
    let same = named-contents z x there.before there.here there.after fits there.map there.named in
    let place = there.place in
    omega arith

module _ (r : ZoneRecords) (z : ZoneState) (held : Stands r z) (x size n : ℕ) (unlent : is_lent z.heap.table x ≡ false) where
  module _ (can : CanHold z x size n) where
    -- the block has an owner
    pub hold-block : has_block z.heap.table x ≡ true
    hold-block = (names-one z x can.before can.here can.after held.fits can.map can.named).block

    abbrev hold_room : Room z x can.here.size size n
    hold_room = record { before = can.before; here = can.here; room = []; after = can.after; map = can.map; named = can.named; free = refl; sum = omega arith; fits = can.fits }

    module _ (at : ℕ) (named : NamedAt z x at) where
      abbrev hold_there : places.CanHold (records_of z) at size n
      hold_there = record {
        held = record {
          before = lower (owners_of z) z.shape can.before;
          size = can.here.size;
          content = content_of (owners_of z) ((address_after z.shape [] + total_size can.before) + head_size z.shape.heads) can.here.kind;
          after = upper (owners_of z) z.shape can.before (can.here ∷ []) can.after;
          blocks = parts-before z (held_there z can).heap (sized_exchange z x can.here.size size n held.fits hold_room)
              ∙ ap (λ l. lower (owners_of z) z.shape can.before ++ record { size = can.here.size; content = content_of (owners_of z) ((address_after z.shape [] + total_size can.before) + head_size z.shape.heads) can.here.kind; lent = l } ∷ upper (owners_of z) z.shape can.before (can.here ∷ []) can.after)
              (named-lent (owners_of z) x can.here.kind can.named ∙ unlent);
          place = parts-place z (held_there z can).heap (sized_exchange z x can.here.size size n held.fits hold_room) at (named-place z x at can.before can.here can.after held.fits can.map can.named named);
          held = (named-held (owners_of z) ((address_after z.shape [] + total_size can.before) + head_size z.shape.heads) x can.here.kind can.named).0;
        };
        fits = front-had z.shape can.here.size size n can.fits;
      }

      -- it can be cut among the blocks
      pub hold-can : places.CanHold r at size n
      hold-can = subst (λ r. places.CanHold r at size n) (sym held.blocks) hold_there

      -- it is
      pub hold-ends : (m : ZoneRecords) → ((c : places.CanHold r at size n) → m ≡ changes.held_there r c) → Kept m (held_there z can)
      hold-ends m is = sized-ends r z held x can.here.size size n unlent hold_room m ((subst (λ (r : ZoneRecords). (c : places.CanHold r at size n) → m ≡ changes.held_there r c) held.blocks is) hold_there)

  module _ (can : CanGrow z x size n) where
    -- the block has an owner
    pub grow-block : has_block z.heap.table x ≡ true
    grow-block = (names-one z x can.before can.here (block kind.Free can.free ∷ can.after) held.fits can.map can.named).block

    abbrev grow_room : Room z x (can.here.size + can.free) size n
    grow_room = record { before = can.before; here = can.here; room = block kind.Free can.free ∷ []; after = can.after; map = can.map; named = can.named; free = refl; sum = omega arith; fits = can.fits }

    module _ (at : ℕ) (named : NamedAt z x at) where
      abbrev grow_there : places.CanGrow (records_of z) at size n
      grow_there = record {
        before = lower (owners_of z) z.shape can.before;
        first = can.here.size;
        content = content_of (owners_of z) ((address_after z.shape [] + total_size can.before) + head_size z.shape.heads) can.here.kind;
        second = can.free;
        after = upper (owners_of z) z.shape can.before (can.here ∷ block kind.Free can.free ∷ []) can.after;
        blocks = parts-before z (enlarged z can).heap (sized_exchange z x (can.here.size + can.free) size n held.fits grow_room)
            ∙ ap (λ l. lower (owners_of z) z.shape can.before ++ record { size = can.here.size; content = content_of (owners_of z) ((address_after z.shape [] + total_size can.before) + head_size z.shape.heads) can.here.kind; lent = l } ∷ block_record records.Free can.free ∷ upper (owners_of z) z.shape can.before (can.here ∷ block kind.Free can.free ∷ []) can.after)
            (named-lent (owners_of z) x can.here.kind can.named ∙ unlent);
        place = parts-place z (enlarged z can).heap (sized_exchange z x (can.here.size + can.free) size n held.fits grow_room) at
            (named-place z x at can.before can.here (block kind.Free can.free ∷ can.after) held.fits can.map can.named named);
        held = (named-held (owners_of z) ((address_after z.shape [] + total_size can.before) + head_size z.shape.heads) x can.here.kind can.named).0;
        fits = front-had z.shape (can.here.size + can.free) size n can.fits;
      }

      -- it can take bytes of the free one among the blocks
      pub grow-can : places.CanGrow r at size n
      grow-can = subst (λ r. places.CanGrow r at size n) (sym held.blocks) grow_there

      -- it does
      pub grow-ends : (m : ZoneRecords) → ((c : places.CanGrow r at size n) → m ≡ changes.enlarged r c) → Kept m (enlarged z can)
      grow-ends m is = sized-ends r z held x (can.here.size + can.free) size n unlent grow_room m ((subst (λ (r : ZoneRecords). (c : places.CanGrow r at size n) → m ≡ changes.enlarged r c) held.blocks is) grow_there)
