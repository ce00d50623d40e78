-- The zone that blocks stand for, where blocks and slots say each other.
use Rattle.std.proofs.Common.{◌≡◌, ℕ, ◌+◌, Bool, true, false, not, cond, eqb, List, [], ◌∷◌, ◌++◌, length, map, Option, Some, None, refl, ap, sym, ◌∙◌, subst, arith, Contains, inl, inr}
use Rattle.std.specs.Prelude.{slice_index}
use Rattle.std.specs.List.{All, list_all, filter}
use Rattle.std.proofs.lemmas.Bool.{and_parts, eqb-true}
use Rattle.mac_base.specs.declared.block.Entry.{Entry}
use Rattle.mac_base.specs.declared.block.Flags.{Flags}
use Rattle.mac_base.specs.HandleTable.{HandleTable, Live, FullHandle, Pointer, live_at, live_full, live_handle, live_pointer, is_full, is_handle, is_pointer}
use Rattle.mac_base.specs.HeadKind.{Shape, head_size, slot_count}
use Rattle.mac_base.specs.Loans.{owners}
use Rattle.mac_base.specs.Sound.{FreeSlots}
use Rattle.mac_base.specs.Suits.{Coherent, is_handle_block, is_pointer_block, slots}
use Rattle.mac_base.specs.ZoneMap.{ZoneMap, addresses, contents_addresses}
use Rattle.mac_base.specs.ZoneState.{ZoneState}
use Rattle.zone_laws.proofs.GapAppend.{addresses_from-none}
use Rattle.zone_laws.proofs.Tables.{eqb_same}
use Rattle.zone_records.specs.Adopting.{AreLinked, Follow}
use Rattle.zone_records.specs.declared.slot.Slot.{Slot}
use Rattle.zone_records.specs.declared.slot.Slot.TheVariants as slot
use Rattle.zone_records.specs.Places.{HandleBlockAt}
use Rattle.zone_records.specs.Records.{Content, BlockRecord, ZoneRecords, Free, Fixed, Master, Relocatable, address_after, handle_record, kind_of, total_of, bytes_of}
use Rattle.zone_records.specs.Slots.{slots_of_zone}
use Rattle.linked_zone.specs.Fit.{Fits}
use Rattle.linked_zone.specs.Owned.{next_free}
use Rattle.linked_zone.specs.Reading.{map_in, either_flags}
use Rattle.linked_zone.proofs.Numbered.{none_is, cons_cases, Contains-mapped, Contains-map, one-at, entries, entries-sorted, find-entries, found-entries}
use Rattle.linked_zone.proofs.ReadNumbers.{IsRising, rising-numbers}
use Rattle.linked_zone.proofs.Readable.{IsReadable, PointerIn, Sayer, block_found, flags_in, said_live, saids, said-cases, said-keys, slot-keys, slot-said, pointer-said, rooms-in, rising-slots_at, none-passes, none-before, one-passes}

-- ---- free slots

-- the first of those that follow one another is the one that they follow from
pub first-follows : (all : List (ℕ × Slot)) (x : ℕ) (xs : List ℕ) → Follow all x xs → slice_index xs 0 ≡ x
unfolding Follow
first-follows all x [] follow = sym follow
first-follows all x (y ∷ ys) follow = sym follow.0

-- a slot that names the one after it among others
pub record Names (all : List (ℕ × Slot)) (xs : List ℕ) (h : ℕ) : Type 0 where
  pub next : ℕ
  pub slot : Contains all (h, slot.Free next)
  pub after : next_free xs h ≡ next

-- each does
pub each-names : (all : List (ℕ × Slot)) (x : ℕ) (xs : List ℕ) → Follow all x xs → (h : ℕ) → Contains xs h → Names all xs h
unfolding Follow
each-names all x [] follow h c = absurd (none_is h c)
each-names all x (y ∷ ys) follow h c = by_test (eqb y h) refl (each-names all follow.1.0 ys follow.1.1.1 h)
  where
    first : eqb y h ≡ true → Names all (y ∷ ys) h
    first is = record {
      next = follow.1.0;
      slot = subst (λ n. Contains all (n, slot.Free follow.1.0)) (eqb-true y h is) follow.1.1.0;
      after = ap (λ b. cond b (slice_index ys 0) (next_free ys h)) is ∙ first-follows all follow.1.0 ys follow.1.1.1;
    }

    by_test : (b : Bool) → eqb y h ≡ b → (Contains ys h → Names all ys h) → Names all (y ∷ ys) h
    by_test true is rest = first is
    by_test false is rest = elim (cons_cases y ys h c) [
      | inl same ↦ absurd (cc (ap (λ n. eqb n h) same ∙ eqb_same h, is))
      | inr later ↦ (let n = rest later in record { next = n.next; slot = n.slot; after = ap (λ b. cond b (slice_index ys 0) (next_free ys h)) is ∙ n.after })
    ]

-- ---- one block of each handle

-- the kind of a handle's block has no address
same-kind : (h a b : ℕ) (c : Content) → is_handle_block h (kind_of a c) ≡ is_handle_block h (kind_of b c)
same-kind h a b Free = refl
same-kind h a b (Fixed bytes) = refl
same-kind h a b (Master slots) = refl
same-kind h a b (Relocatable g flags bytes) = refl

-- the first block of a handle is found
found-after : (h : ℕ) (s : Shape) (at : ℕ) (before : List BlockRecord) (b : BlockRecord) (after : List BlockRecord) → list_all (λ (e : Entry). not (is_handle_block h e.kind)) (map_in s at before) ≡ true → is_handle_block h (kind_of 0 b.content) ≡ true
    → block_found h (before ++ b ∷ after) ≡ b.content
found-after h s at [] b after none is = ap (λ t. cond t b.content (block_found h after)) is
found-after h s at (x ∷ before) b after none is =
    let parts = and_parts (not (is_handle_block h (kind_of (at + head_size s.heads) x.content))) (list_all (λ (e : Entry). not (is_handle_block h e.kind)) (map_in s (at + x.size) before)) none in
    ap (λ t. cond t x.content (block_found h (before ++ b ∷ after))) (by_test (is_handle_block h (kind_of 0 x.content)) (ap not (same-kind h 0 (at + head_size s.heads) x.content) ∙ parts.0))
    ∙ found-after h s (at + x.size) before b after parts.1 is
  where
    by_test : (t : Bool) → (not t) ≡ true → t ≡ false
    by_test true h = absurd (cc h)
    by_test false h = refl

-- nothing is lent
pub none-lent : (xs : List ℕ) → filter (λ x. false) xs ≡ []
none-lent [] = refl
none-lent (x ∷ xs) = none-lent xs

module _ (r : ZoneRecords) (all : All (IsReadable r.shape) r.blocks) where
  abbrev pub start : ℕ
  start = address_after r.shape []

  abbrev pub head : ℕ
  head = head_size r.shape.heads

  abbrev said : List (ℕ × Option Live)
  said = saids r.shape r.blocks start r.blocks

  -- the map that is read off the blocks, and what is live
  abbrev pub read_map : ZoneMap
  read_map = map_in r.shape start r.blocks

  abbrev pub read_table : HandleTable
  read_table = record { live = entries said; lent = [] }

  rise : IsRising 0 (map (λ e. e.0) said)
  rise = subst (IsRising 0) (sym (said-keys r.shape r.blocks start r.blocks all)) (rising-numbers head slot_count start 0 read_map (omega arith) (rooms-in r.shape start r.blocks all))

  keys : map (λ e. e.0) (slots_of_zone r) ≡ slots r.shape read_map
  keys = slot-keys r.shape start r.blocks all

  pub slots-rise : IsRising 0 (map (λ e. e.0) (slots_of_zone r))
  slots-rise = subst (IsRising 0) (sym keys) (rising-slots_at head slot_count start 0 read_map (omega arith) (rooms-in r.shape start r.blocks all))

  -- what a slot says is live
  pub live-slot : (x : ℕ) (sl : Slot) → Contains (slots_of_zone r) (x, sl) → live_at read_table x ≡ said_live r.blocks x sl
  live-slot x sl c = find-entries 0 said x (said_live r.blocks x sl) rise (slot-said r.shape r.blocks start r.blocks x sl c)

  -- what a pointer's block says
  pub live-pointer : (x : ℕ) (bytes : List ℕ) → PointerIn r.shape start r.blocks x bytes → live_at read_table x ≡ Some (Pointer bytes)
  live-pointer x bytes p = find-entries 0 said x (Some (Pointer bytes)) rise (pointer-said r.shape r.blocks start r.blocks x bytes p)

  -- nothing else is live
  live-cases : (x : ℕ) (l : Live) → live_at read_table x ≡ Some l → Sayer r.shape r.blocks start r.blocks x (Some l)
  live-cases x l is = said-cases r.shape r.blocks start r.blocks x (Some l) (found-entries 0 said x l rise is)

  -- the map has the same slots
  pub slot-in-map : (x : ℕ) (sl : Slot) → Contains (slots_of_zone r) (x, sl) → Contains (slots r.shape read_map) x
  slot-in-map x sl c = subst (λ xs. Contains xs x) keys (Contains-mapped (λ e. e.0) (slots_of_zone r) (x, sl) c)

  slot-from-map : (x : ℕ) → Contains (slots r.shape read_map) x → (sl : Slot) × Contains (slots_of_zone r) (x, sl)
  slot-from-map x c =
      let from = Contains-map (λ (e : ℕ × Slot). e.0) (slots_of_zone r) x (subst (λ xs. Contains xs x) (sym keys) c) in
      (from.0.1, subst (λ y. Contains (slots_of_zone r) (y, from.0.1)) from.2 from.1)

  -- a handle's slot that says where its block is
  pub record FullSaid (h : ℕ) : Type 0 where
    pub flags : Flags
    pub contents : ℕ
    pub slot : Contains (slots_of_zone r) (h, slot.Full flags contents)

  pub full-said : (h : ℕ) → is_full read_table h ≡ true → FullSaid h
  full-said h full = of_live (live_at read_table h) refl full
    where
      of_slot : (sl : Slot) → Contains (slots_of_zone r) (h, sl) → live_full (said_live r.blocks h sl) ≡ true → FullSaid h
      of_slot (slot.Free next) c full = absurd (cc full)
      of_slot slot.Empty c full = absurd (cc full)
      of_slot (slot.Full flags contents) c full = record { flags = flags; contents = contents; slot = c }

      of_sayer : (l : Live) → Sayer r.shape r.blocks start r.blocks h (Some l) → live_full (Some l) ≡ true → FullSaid h
      of_sayer l (inl said) full = of_slot said.0 said.1 (ap live_full said.2 ∙ full)
      of_sayer l (inr pointer) full = absurd (cc (ap live_full pointer.2 ∙ full))

      of_live : (o : Option Live) → live_at read_table h ≡ o → live_full o ≡ true → FullSaid h
      of_live None is full = absurd (cc full)
      of_live (Some l) is full = of_sayer l (live-cases h l is) full

  -- the block of each pointer
  pub record PointerThere (p : ℕ) : Type 0 where
    pub bytes : List ℕ
    pub block : PointerIn r.shape start r.blocks p bytes

  pointer-there : (p : ℕ) → is_pointer read_table p ≡ true → PointerThere p
  pointer-there p live = of_live (live_at read_table p) refl live
    where
      of_slot : (sl : Slot) → live_pointer (said_live r.blocks p sl) ≡ true → PointerThere p
      of_slot (slot.Free next) live = absurd (cc live)
      of_slot slot.Empty live = absurd (cc live)
      of_slot (slot.Full flags contents) live = absurd (cc live)

      of_sayer : (l : Live) → Sayer r.shape r.blocks start r.blocks p (Some l) → live_pointer (Some l) ≡ true → PointerThere p
      of_sayer l (inl said) live = of_slot said.0 (ap live_pointer said.2 ∙ live)
      of_sayer l (inr pointer) live = record { bytes = pointer.0; block = pointer.1 }

      of_live : (o : Option Live) → live_at read_table p ≡ o → live_pointer o ≡ true → PointerThere p
      of_live None is live = absurd (cc live)
      of_live (Some l) is live = of_sayer l (live-cases p l is) live

  -- each live handle is the address of a slot
  handle-slots : (h : ℕ) → is_handle read_table h ≡ true → Contains (slots r.shape read_map) h
  handle-slots h live = of_live (live_at read_table h) refl live
    where
      of_sayer : (l : Live) → Sayer r.shape r.blocks start r.blocks h (Some l) → live_handle (Some l) ≡ true → Contains (slots r.shape read_map) h
      of_sayer l (inl said) live = slot-in-map h said.0 said.1
      of_sayer l (inr pointer) live = absurd (cc (ap live_handle pointer.2 ∙ live))

      of_live : (o : Option Live) → live_at read_table h ≡ o → live_handle o ≡ true → Contains (slots r.shape read_map) h
      of_live None is live = absurd (cc live)
      of_live (Some l) is live = of_sayer l (live-cases h l is) live

  -- a block that passes as a pointer's is one
  pointer-of : (p a : ℕ) (xs : List BlockRecord) (size : ℕ) (c : Content) (lent : Bool) (ys : List BlockRecord) → a ≡ start + total_of xs → r.blocks ≡ xs ++ record { size = size; content = c; lent = lent } ∷ ys
      → is_pointer_block p (kind_of (a + head) c) ≡ true → (a + head ≡ p) × PointerThere p
  pointer-of p a xs size Free lent ys place split passes = absurd (cc passes)
  pointer-of p a xs size (Master slots) lent ys place split passes = absurd (cc passes)
  pointer-of p a xs size (Relocatable h flags bytes) lent ys place split passes = absurd (cc passes)
  pointer-of p a xs size (Fixed bytes) lent ys place split passes =
      let same : a + head ≡ p = eqb-true (a + head) p passes in
      (same, record { bytes = bytes; block = record { before = xs; size = size; lent = lent; after = ys; blocks = split; place = omega arith } })

  -- each pointer has one block, where its number says
  pointers-read : (p : ℕ) → contents_addresses r.shape (is_pointer_block p) read_map ≡ cond (is_pointer read_table p) (p ∷ []) []
  pointers-read p = by_test (is_pointer read_table p) refl
    where
      by_test : (b : Bool) → is_pointer read_table p ≡ b → map (λ a. a + head) (addresses r.shape (is_pointer_block p) read_map) ≡ cond b (p ∷ []) []
      by_test true live =
          let b = (pointer-there p live).block in
          let place = b.place in
          ap (map (λ a. a + head)) (one-passes (is_pointer_block p) r.shape start r.blocks all b.before _ b.after b.blocks
          (λ xs c ys a there split passes. let same = (pointer-of p a xs c.size c.content c.lent ys there split passes).0 in omega arith)
          (ap (λ q. eqb q p) (sym b.place) ∙ eqb_same p))
          ∙ ap (λ q. q ∷ []) (sym b.place)
      by_test false live = ap (map (λ a. a + head)) (addresses_from-none start (is_pointer_block p) read_map (none-passes (is_pointer_block p) r.shape start r.blocks (λ xs c ys a there split passes.
          let p' = (pointer-of p a xs c.size c.content c.lent ys there split passes).1 in absurd (cc (ap live_pointer (live-pointer p p'.bytes p'.block), live)))))

  module _ (links : AreLinked r) where
    -- the block of a handle
    record HandleThere (h at : ℕ) : Type 0 where
      block : HandleBlockAt r at
      is : block.handle ≡ h

    handle-of : (h a : ℕ) (xs : List BlockRecord) (size : ℕ) (c : Content) (lent : Bool) (ys : List BlockRecord) → a ≡ start + total_of xs → r.blocks ≡ xs ++ record { size = size; content = c; lent = lent } ∷ ys
        → is_handle_block h (kind_of (a + head) c) ≡ true → HandleThere h a
    handle-of h a xs size Free lent ys place split passes = absurd (cc passes)
    handle-of h a xs size (Fixed bytes) lent ys place split passes = absurd (cc passes)
    handle-of h a xs size (Master slots) lent ys place split passes = absurd (cc passes)
    handle-of h a xs size (Relocatable g flags bytes) lent ys place split passes = record {
      block = record { before = xs; size = size; handle = g; flags = flags; bytes = bytes; lent = lent; after = ys; blocks = split; place = omega arith };
      is = eqb-true g h passes;
    }

    -- two blocks of one handle are at one address
    one-place : (at to : ℕ) (b : HandleBlockAt r at) (c : HandleBlockAt r to) → b.handle ≡ c.handle → at ≡ to
    one-place at to b c same =
        let first = links.blocks at b in
        let second = links.blocks to c in
        let said : slot.Full first.flags (at + head) ≡ slot.Full second.flags (to + head) = one-at 0 (slots_of_zone r) c.handle (slot.Full first.flags (at + head)) (slot.Full second.flags (to + head)) slots-rise
        (subst (λ h. Contains (slots_of_zone r) (h, slot.Full first.flags (at + head))) same first.slot_is) second.slot_is in
        let place : at + head ≡ to + head = cc said in omega arith

    only-place : (at : ℕ) (b : HandleBlockAt r at) (xs : List BlockRecord) (c : BlockRecord) (ys : List BlockRecord) (a : ℕ) → a ≡ start + total_of xs → r.blocks ≡ xs ++ c ∷ ys → is_handle_block b.handle (kind_of (a + head) c.content) ≡ true → a ≡ start + total_of b.before
    only-place at b xs c ys a there split passes =
        let other = handle-of b.handle a xs c.size c.content c.lent ys there split passes in
        let same = one-place a at other.block b other.is in
        let place = b.place in omega arith

    -- its address is the only one of its handle's blocks
    pub handle-address : (at : ℕ) (b : HandleBlockAt r at) → addresses r.shape (is_handle_block b.handle) read_map ≡ (start + total_of b.before) ∷ []
    handle-address at b = one-passes (is_handle_block b.handle) r.shape start r.blocks all b.before (handle_record b.handle b.flags b.bytes b.size b.lent) b.after b.blocks (only-place at b) (eqb_same b.handle)

    -- it is the one that is found
    pub handle-found : (at : ℕ) (b : HandleBlockAt r at) → block_found b.handle r.blocks ≡ Relocatable b.handle b.flags b.bytes
    handle-found at b = ap (block_found b.handle) b.blocks ∙ found-after b.handle r.shape start b.before (handle_record b.handle b.flags b.bytes b.size b.lent) b.after
        (none-before (is_handle_block b.handle) r.shape start r.blocks all b.before (handle_record b.handle b.flags b.bytes b.size b.lent) b.after b.blocks (only-place at b)) (eqb_same b.handle)

    -- so the handle has its bytes, and the flags that slot and header say
    pub live-handle : (at : ℕ) (b : HandleBlockAt r at) → live_at read_table b.handle ≡ Some (FullHandle (either_flags (links.blocks at b).flags b.flags) b.bytes)
    live-handle at b =
        let flags = (links.blocks at b).flags in
        live-slot b.handle (slot.Full flags (at + head)) (links.blocks at b).slot_is ∙ ap (λ c. Some (FullHandle (either_flags flags (flags_in c)) (bytes_of c))) (handle-found at b)

    -- each handle that isn't empty has one block
    handles-read : (h : ℕ) → length (addresses r.shape (is_handle_block h) read_map) ≡ cond (is_full read_table h) 1 0
    handles-read h = by_test (is_full read_table h) refl
      where
        by_test : (b : Bool) → is_full read_table h ≡ b → length (addresses r.shape (is_handle_block h) read_map) ≡ cond b 1 0
        by_test true full =
            let f = full-said h full in
            let b = links.slots h f.flags f.contents f.slot in
            ap (λ g. length (addresses r.shape (is_handle_block g) read_map)) (sym b.handle_is) ∙ ap length (handle-address b.at b.block)
        by_test false empty = ap length (addresses_from-none start (is_handle_block h) read_map (none-passes (is_handle_block h) r.shape start r.blocks (λ xs c ys a there split passes.
            let b = handle-of h a xs c.size c.content c.lent ys there split passes in absurd (cc (ap (is_full read_table) (sym b.is) ∙ ap live_full (live-handle a b.block), empty)))))

    pub read-coherent : Coherent r.shape read_table read_map
    read-coherent = record { handles = handles-read; pointers = pointers-read; in_slots = handle-slots; in_order = entries-sorted 0 said rise }

    -- the free slots are those that aren't live
    pub read-free : FreeSlots r.shape (record { table = read_table; map = read_map; free_slots = links.free.free })
    read-free = record {
      free = λ x. (
        (λ c. let n = each-names (slots_of_zone r) r.front links.free.free links.free.follow x c in (slot-in-map x (slot.Free n.next) n.slot, ap live_handle (live-slot x (slot.Free n.next) n.slot))),
        (λ c. let s = slot-from-map x c.0 in of_slot x s.0 s.1 (sym (ap live_handle (live-slot x s.0 s.1)) ∙ c.1)),
      );
      once = links.free.once;
    }
      where
        of_slot : (x : ℕ) (sl : Slot) → Contains (slots_of_zone r) (x, sl) → live_handle (said_live r.blocks x sl) ≡ false → Contains links.free.free x
        of_slot x (slot.Free next) c dead = links.free.all x next c
        of_slot x slot.Empty c dead = absurd (cc dead)
        of_slot x (slot.Full flags contents) c dead = absurd (cc dead)

    -- the zone
    abbrev pub read_zone : ZoneState
    read_zone = record { memory = r.memory; shape = r.shape; heap = record { table = read_table; map = read_map; free_slots = links.free.free } }

    pub read-fits : Fits read_zone
    read-fits = record { coherent = read-coherent; slots = read-free; loans = record { in_order = sym (none-lent (owners read_map)); few = omega arith } }
