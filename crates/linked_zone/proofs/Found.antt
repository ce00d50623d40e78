-- What is found at a number in the blocks of a zone: what its slot says, its block, and what it has there.
use Rattle.std.proofs.Common.{◌≡◌, ℕ, ◌+◌, ◌-◌, ◌≤◌, Bool, true, false, ◌||◌, cond, [], ◌∷◌, ◌++◌, Option, Some, None, refl, ap, sym, ◌∙◌, subst, arith, Contains, ◌⊎◌, inl, inr}
use Rattle.std.proofs.lemmas.List.Elements.{Contains-append_cases}
use Rattle.std.proofs.lemmas.List.{nil_from_length}
use Rattle.std.proofs.lemmas.Bool.{eqb-true}
use Rattle.mac_base.specs.declared.block.Entry.{Entry}
use Rattle.mac_base.specs.declared.block.Flags.{Flags}
use Rattle.mac_base.specs.declared.block.HeadKind.{HeadKind}
use Rattle.mac_base.specs.declared.block.HeadKind.TheVariants.{Bits24, Bits32}
use Rattle.mac_base.specs.declared.block.Kind.{Kind}
use Rattle.mac_base.specs.declared.block.Kind.TheVariants as kind
use Rattle.mac_base.specs.HeadKind.{head_size}
use Rattle.mac_base.specs.ZoneMap.{ZoneMap, block, is_named, addresses_from, address_after, contents_of, total_size}
use Rattle.mac_base.specs.HandleTable.{Live, EmptyHandle, FullHandle, Pointer, live_at, live_full, live_flags, live_handle, live_pointer, no_flags, flags_of, is_full, is_handle, is_pointer, has_block, is_lent, bytes_of}
use Rattle.mac_base.specs.Suits.{slots, is_handle_block, is_pointer_block, wanted_length}
use Rattle.mac_base.specs.ZoneState.{ZoneState}
use Rattle.zone_laws.proofs.Owners.{nothing_passes}
use Rattle.zone_laws.proofs.SlotPlaces.{Contains-none, Contains-cons_cases}
use Rattle.zone_laws.proofs.Tables.{eqb_same, full_handle}
use Rattle.zone_records.specs.declared.slot.Slot.{Slot}
use Rattle.zone_records.specs.declared.slot.Slot.TheVariants as slot
use Rattle.zone_records.specs.Records.{ZoneRecords, Free, Master, kind_of, length_of}
use Rattle.zone_records.specs.Records as records
use Rattle.zone_records.specs.Places.{RecordAt, SlotAt, HeldAt, HandleBlockAt, has_bytes}
use Rattle.linked_zone.specs.Flags.{flags_there}
use Rattle.linked_zone.specs.Owned.{Owners, slot_flags, header_flags, next_free, slot_of_live, slot_of, owners_of, content_of, lent_of, records_of}
use Rattle.linked_zone.specs.Places.{EntryAt, HasOwner, BlockOf, NamedAt}
use Rattle.linked_zone.specs.Sizes.{sizes_of}
use Rattle.linked_zone.specs.Fit.{Fits, HasRooms}
use Rattle.linked_zone.proofs.Standing.{Stands}
use Rattle.linked_zone.proofs.ChangeEmptied.{own_block}
use Rattle.linked_zone.proofs.Owning.{slot-at, records-total}
use Rattle.linked_zone.proofs.ReadBlocks.{IsPointerThere}
use Rattle.linked_zone.proofs.ReadBack.{pointer_place}
use Rattle.linked_zone.proofs.Located.{of-entry, of-record, entry-pointer, entry-read}

-- ---- the zone's sizes

pub sizes-read : (r : ZoneRecords) (z : ZoneState) → Stands r z → records.sizes_of r ≡ sizes_of z
sizes-read r z stands = ap records.sizes_of stands.blocks ∙ ap (λ n. record { heads = z.shape.heads; base = z.shape.base; size = 52 + n; limit = z.shape.limit }) (records-total (owners_of z) z.shape (address_after z.shape []) z.heap.map)

-- how many bytes a header has
pub head-read : (r : ZoneRecords) (z : ZoneState) → Stands r z → (heads : HeadKind) (n : ℕ) → heads ≡ (records.sizes_of r).heads → n ≡ head_size heads → n ≡ head_size z.shape.heads
head-read r z stands heads n is said = said ∙ ap head_size (is ∙ ap (λ (r : ZoneRecords). r.shape.heads) stands.blocks)

-- ---- what a slot says

-- a slot of the blocks, and what it says
pub record OfSlot (r : ZoneRecords) (z : ZoneState) (x : ℕ) : Type 0 where
  pub there : SlotAt r x
  pub says : there.here ≡ slot_of z x

pub of-slot : (r : ZoneRecords) (z : ZoneState) → Stands r z → (x : ℕ) → Contains (slots z.shape z.heap.map) x → OfSlot r z x
of-slot r z stands x c = subst (λ r. OfSlot r z x) (sym stands.blocks) (record { there = slot-at z.memory z.shape (records_of z).front (owners_of z) z.heap.map x stands.rooms c; says = refl })

-- the same of a number that is the slot's
pub slot-there : (r : ZoneRecords) (z : ZoneState) → Stands r z → (x n : ℕ) → n ≡ x → Contains (slots z.shape z.heap.map) x → SlotAt r n
slot-there r z stands x n same c = subst (SlotAt r) (sym same) (of-slot r z stands x c).there

pub slot-is : (r : ZoneRecords) (z : ZoneState) → Stands r z → (x n : ℕ) (said : Slot) → n ≡ x → Contains (slots z.shape z.heap.map) x → ((s : SlotAt r n) → said ≡ s.here) → said ≡ slot_of z x
slot-is r z stands x n said same c is =
    let mine = of-slot r z stands n (subst (Contains (slots z.shape z.heap.map)) (sym same) c) in
    is mine.there ∙ mine.says ∙ ap (slot_of z) same

-- whether a slot is a live handle
abbrev pub says_live : Slot → Bool
says_live (slot.Free next) = false
says_live slot.Empty = true
says_live (slot.Full flags contents) = true

-- whether it is one with a block
abbrev pub says_full : Slot → Bool
says_full (slot.Free next) = false
says_full slot.Empty = false
says_full (slot.Full flags contents) = true

-- what isn't free is live, and what isn't full has no block
pub other-live : (s : Slot) → ((next : ℕ) → s ≡ slot.Free next → ⊥) → says_live s ≡ true
other-live (slot.Free next) other = absurd (other next refl)
other-live slot.Empty other = refl
other-live (slot.Full flags contents) other = refl

pub other-full : (s : Slot) → ((flags : Flags) (contents : ℕ) → s ≡ slot.Full flags contents → ⊥) → says_full s ≡ false
other-full (slot.Free next) other = refl
other-full slot.Empty other = refl
other-full (slot.Full flags contents) other = absurd (other flags contents refl)

-- a slot says whether it is a live handle, and whether it has a block
pub slot-live : (z : ZoneState) → (x : ℕ) → is_pointer z.heap.table x ≡ false → says_live (slot_of z x) ≡ is_handle z.heap.table x
slot-live z x other = by_case (live_at z.heap.table x) other
  where
    by_case : (o : Option Live) → live_pointer o ≡ false → says_live (slot_of_live z.shape.heads o (contents_of z.shape x z.heap.map) (next_free z.heap.free_slots x)) ≡ live_handle o
    by_case None other = refl
    by_case (Some EmptyHandle) other = refl
    by_case (Some (FullHandle flags bytes)) other = refl
    by_case (Some (Pointer bytes)) other = absurd (cc other)

pub slot-full : (z : ZoneState) (x : ℕ) → says_full (slot_of z x) ≡ is_full z.heap.table x
slot-full z x = by_case (live_at z.heap.table x)
  where
    by_case : (o : Option Live) → says_full (slot_of_live z.shape.heads o (contents_of z.shape x z.heap.map) (next_free z.heap.free_slots x)) ≡ live_full o
    by_case None = refl
    by_case (Some EmptyHandle) = refl
    by_case (Some (FullHandle flags bytes)) = refl
    by_case (Some (Pointer bytes)) = refl

-- the slot of a handle with a block says the block's contents, and of its flags those that are said there
pub full-said : (z : ZoneState) (x : ℕ) (flags : Flags) (contents : ℕ) → slot.Full flags contents ≡ slot_of z x
    → (contents ≡ contents_of z.shape x z.heap.map) × (flags ≡ slot_flags z.shape.heads (flags_of z.heap.table x)) × (is_full z.heap.table x ≡ true)
full-said z x flags contents is = by_case (live_at z.heap.table x) is
  where
    by_case : (o : Option Live) → slot.Full flags contents ≡ slot_of_live z.shape.heads o (contents_of z.shape x z.heap.map) (next_free z.heap.free_slots x)
        → (contents ≡ contents_of z.shape x z.heap.map) × (flags ≡ slot_flags z.shape.heads (live_flags o)) × (live_full o ≡ true)
    by_case None is = absurd (cc is)
    by_case (Some EmptyHandle) is = absurd (cc is)
    by_case (Some (FullHandle f bytes)) is = (cc is, cc is, refl)
    by_case (Some (Pointer bytes)) is = absurd (cc is)

-- a slot that says none has none
pub none-said : (z : ZoneState) (x : ℕ) (said : Slot) → ((n : ℕ) × (said ≡ slot.Free n)) ⊎ (said ≡ slot.Empty) → said ≡ slot_of z x → is_full z.heap.table x ≡ false
none-said z x said (inl free) is = sym (slot-full z x) ∙ ap says_full (sym is ∙ free.1)
none-said z x said (inr empty) is = sym (slot-full z x) ∙ ap says_full (sym is ∙ empty)

-- ---- flags

-- only what has a block has flags
pub no-flags : (z : ZoneState) (x : ℕ) → is_full z.heap.table x ≡ false → no_flags ≡ flags_of z.heap.table x
no-flags z x = by_case (live_at z.heap.table x)
  where
    by_case : (o : Option Live) → live_full o ≡ false → no_flags ≡ live_flags o
    by_case None empty = refl
    by_case (Some EmptyHandle) empty = refl
    by_case (Some (FullHandle flags bytes)) empty = absurd (cc empty)
    by_case (Some (Pointer bytes)) empty = refl

-- the flags that are said in one of two places are read there
pub flags-there : (heads : HeadKind) (flags : Flags) → flags_there heads (slot_flags heads flags) (header_flags heads flags) ≡ flags
flags-there Bits24 flags = refl
flags-there Bits32 flags = refl

-- the block of a handle says the others
pub record OfHandle (r : ZoneRecords) (z : ZoneState) (h at : ℕ) : Type 0 where
  pub there : HandleBlockAt r at
  pub says : there.flags ≡ header_flags z.shape.heads (flags_of z.heap.table h)

pub of-handle : (r : ZoneRecords) (z : ZoneState) → Stands r z → (h at : ℕ) → BlockOf z h at → OfHandle r z h at
of-handle r z stands h at b =
    let mine = of-entry r z stands.blocks at (record { before = b.before; here = block (kind.Rel h) b.size; after = b.after; map = b.map; place = b.place }) in
    let there = mine.there in
    record {
      there = record {
        before = there.before;
        size = b.size;
        handle = h;
        flags = header_flags z.shape.heads (flags_of z.heap.table h);
        bytes = bytes_of z.heap.table h;
        lent = is_lent z.heap.table h;
        after = there.after;
        blocks = there.blocks ∙ ap (λ b. there.before ++ b ∷ there.after) mine.here;
        place = there.place;
      };
      says = refl;
    }

-- the block at an address is that of a handle
pub handle-block : (z : ZoneState) (h at : ℕ) (e : EntryAt z at) → e.here.kind ≡ kind.Rel h → BlockOf z h at
handle-block z h at e is = record { before = e.before; size = e.here.size; after = e.after; map = e.map ∙ ap (λ k. e.before ++ block k e.here.size ∷ e.after) is; place = e.place }

-- the block of a handle whose slot says where its contents begin
pub record FullSlot (z : ZoneState) (h : ℕ) (flags : Flags) (contents head : ℕ) : Type 0 where
  pub above : head ≤ contents
  pub block : BlockOf z h (contents - head)
  pub says : flags ≡ slot_flags z.shape.heads (flags_of z.heap.table h)

pub full-slot : (z : ZoneState) → Fits z → (h : ℕ) (flags : Flags) (contents head : ℕ) → slot.Full flags contents ≡ slot_of z h → head ≡ head_size z.shape.heads → FullSlot z h flags contents head
full-slot z fits h flags contents head is same =
    let said = full-said z h flags contents is in
    let begin = said.0 in
    let own = own_block z h fits said.2 in
    let place = own.contents in
    let there : own.at ≡ contents - head = omega arith in
    record { above = omega arith; block = subst (BlockOf z h) there own.block; says = said.1 }

-- ---- which numbers have a block

-- what has a block and is no pointer is a handle with a block
pub full-other : (z : ZoneState) (x : ℕ) → is_pointer z.heap.table x ≡ false → has_block z.heap.table x ≡ is_full z.heap.table x
full-other z x other = ap (λ b. is_full z.heap.table x || b) other ∙ by_test (is_full z.heap.table x)
  where
    by_test : (b : Bool) → (b || false) ≡ b
    by_test true = refl
    by_test false = refl

-- a block of a map that passes a test, at an address
record Passing (at : ℕ) (test : Kind → Bool) (m : ZoneMap) (a : ℕ) : Type 0 where
  before : ZoneMap
  here : Entry
  after : ZoneMap
  was : m ≡ before ++ here ∷ after
  passes : test here.kind ≡ true
  place : a ≡ at + total_size before

-- each address of those that pass has one
passing : (at : ℕ) (test : Kind → Bool) (m : ZoneMap) (a : ℕ) → Contains (addresses_from at test m) a → Passing at test m a
passing at test [] a c = absurd (Contains-none a c)
passing at test (e ∷ es) a c = by_cases (test e.kind) refl (Contains-append_cases _ _ a c) (λ later. passing (at + e.size) test es a later)
  where
    by_cases : (b : Bool) → test e.kind ≡ b → Contains (cond b (at ∷ []) []) a ⊎ Contains (addresses_from (at + e.size) test es) a
        → (Contains (addresses_from (at + e.size) test es) a → Passing (at + e.size) test es a) → Passing at test (e ∷ es) a
    by_cases true is (inl first) rest =
        let same : at ≡ a = elim (Contains-cons_cases at [] a first) [ inl same ↦ same | inr none ↦ absurd (Contains-none a none) ] in
        record { before = []; here = e; after = es; was = refl; passes = is; place = omega arith }
    by_cases false is (inl none) rest = absurd (Contains-none a none)
    by_cases b is (inr later) rest =
        let r = rest later in
        let place = r.place in
        record { before = e ∷ r.before; here = r.here; after = r.after; was = ap (λ (m : ZoneMap). e ∷ m) r.was; passes = r.passes; place = omega arith }

pointer_kind : (p : ℕ) (k : Kind) → is_pointer_block p k ≡ true → k ≡ kind.Ptr p
pointer_kind p kind.Free is = absurd (cc is)
pointer_kind p kind.Master is = absurd (cc is)
pointer_kind p (kind.Ptr q) is = ap (λ x. kind.Ptr x) (eqb-true q p is)
pointer_kind p (kind.Rel h) is = absurd (cc is)

-- the block of a pointer, whose contents begin at its number
pub record PointerBlock (z : ZoneState) (p : ℕ) : Type 0 where
  pub at : ℕ
  pub entry : EntryAt z at
  pub kind : entry.here.kind ≡ kind.Ptr p
  pub number : p ≡ at + head_size z.shape.heads

-- each pointer has one
pub pointer-block : (z : ZoneState) → Fits z → HasRooms z → (p : ℕ) → is_pointer z.heap.table p ≡ true → PointerBlock z p
pointer-block z fits rooms p live =
    let found = pointer_place z fits rooms p live in
    let b = passing (address_after z.shape []) (is_pointer_block p) z.heap.map found.0 found.1 in
    let place = b.place in
    record {
      at = found.0;
      entry = record { before = b.before; here = b.here; after = b.after; map = b.was; place = omega arith };
      kind = pointer_kind p b.here.kind b.passes;
      number = sym found.2;
    }

-- where no block passes a test, the one at a place doesn't
passes-not : (at : ℕ) (test : Kind → Bool) (before : ZoneMap) (e : Entry) (after : ZoneMap) → addresses_from at test (before ++ e ∷ after) ≡ [] → test e.kind ≡ false
passes-not at test [] e after none = (nothing_passes (test e.kind) at (addresses_from (at + e.size) test after) none).0
passes-not at test (f ∷ before) e after none = passes-not (at + f.size) test before e after (nothing_passes (test f.kind) at (addresses_from (at + f.size) test (before ++ e ∷ after)) none).1

-- the handle whose block is in the map has a block
pub block-full : (z : ZoneState) → Fits z → (at h : ℕ) (e : EntryAt z at) → e.here.kind ≡ kind.Rel h → is_full z.heap.table h ≡ true
block-full z fits at h e is = by_test (is_full z.heap.table h) refl
  where
    by_test : (b : Bool) → is_full z.heap.table h ≡ b → b ≡ true
    by_test true full = refl
    by_test false empty =
        let none = nil_from_length _ (fits.coherent.handles h ∙ ap (λ b. cond b 1 0) empty) in
        let passes = passes-not (address_after z.shape []) (is_handle_block h) e.before e.here e.after (ap (addresses_from (address_after z.shape []) (is_handle_block h)) (sym e.map) ∙ none) in
        absurd (cc (passes, ap (is_handle_block h) is, eqb_same h))

module _ (r : ZoneRecords) (z : ZoneState) (stands : Stands r z) where
  -- where the contents of a pointer's block begin is a pointer
  pub pointer-made : (at p q : ℕ) (entry : Entry) (b : RecordAt r at) → ((b : RecordAt r at) → entry ≡ block (kind_of (at + head_size r.shape.heads) b.here.content) b.here.size) → entry.kind ≡ kind.Ptr q → p ≡ at + head_size z.shape.heads
      → is_pointer z.heap.table p ≡ true
  pointer-made at p q entry b is pointer number =
      let mine = of-record r z stands.blocks at b in
      let there : mine.entry.here.kind ≡ kind.Ptr q = ap (λ (e : Entry). e.kind) (sym (is b ∙ ap (λ (r : ZoneRecords). block (kind_of (at + head_size r.shape.heads) b.here.content) b.here.size) stands.blocks
      ∙ entry-read z stands.fits stands.rooms at mine.entry b.here mine.here)) ∙ pointer in
      let lives : IsPointerThere z.heap.table (at + head_size z.shape.heads) (kind.Ptr q) = subst (IsPointerThere z.heap.table (at + head_size z.shape.heads)) there (entry-pointer z stands.fits stands.rooms at mine.entry) in
      ap (is_pointer z.heap.table) (number ∙ sym lives.0) ∙ lives.1

  -- and each pointer is where one's begin
  pub pointer-said : (at p : ℕ) → is_pointer z.heap.table p ≡ true → at ≡ p - head_size z.shape.heads
      → (head_size z.shape.heads ≤ p) × ((b : RecordAt r at) × (kind_of (at + head_size r.shape.heads) b.here.content ≡ kind.Ptr p))
  pointer-said at p live is =
      let mine = pointer-block z stands.fits stands.rooms p live in
      let number = mine.number in
      let there = of-entry r z stands.blocks mine.at mine.entry in
      let same : mine.at ≡ at = omega arith in
      let pointer : kind_of (mine.at + head_size r.shape.heads) there.there.here.content ≡ kind.Ptr p = ap (λ (r : ZoneRecords). kind_of (mine.at + head_size r.shape.heads) there.there.here.content) stands.blocks
      ∙ ap (λ (e : Entry). e.kind) (entry-read z stands.fits stands.rooms mine.at mine.entry there.there.here there.here) ∙ mine.kind in
      (omega arith, subst (λ at. (b : RecordAt r at) × (kind_of (at + head_size r.shape.heads) b.here.content ≡ kind.Ptr p)) same (there.there, pointer))

  -- its place
  pub pointer-named : (p : ℕ) → is_pointer z.heap.table p ≡ true → (head_size z.shape.heads ≤ p) × NamedAt z p (p - head_size z.shape.heads)
  pointer-named p live =
      let mine = pointer-block z stands.fits stands.rooms p live in
      let e = mine.entry in
      let number = mine.number in
      let same : mine.at ≡ p - head_size z.shape.heads = omega arith in
      let place : NamedAt z p mine.at = record { before = e.before; here = e.here; after = e.after; map = e.map; place = e.place; named = ap (is_named p) mine.kind ∙ eqb_same p } in
      (omega arith, subst (NamedAt z p) same place)

  -- that of a handle's block
  pub handle-named : (h at : ℕ) → BlockOf z h at → NamedAt z h at
  handle-named h at b = record { before = b.before; here = block (kind.Rel h) b.size; after = b.after; map = b.map; place = b.place; named = eqb_same h }

  -- the handle whose block is in the map is live
  handle-live : (at h : ℕ) (e : EntryAt z at) → e.here.kind ≡ kind.Rel h → is_handle z.heap.table h ≡ true
  handle-live at h e is = full_handle z.heap.table h (block-full z stands.fits at h e is)

  -- so each block has its owner
  pub has-owner : (at : ℕ) (e : EntryAt z at) → HasOwner z e.here.kind
  has-owner at e = by_kind e.here.kind refl
    where
      by_kind : (k : Kind) → e.here.kind ≡ k → HasOwner z k
      by_kind kind.Free is = tt
      by_kind kind.Master is = tt
      by_kind (kind.Ptr p) is = tt
      by_kind (kind.Rel h) is = handle-live at h e is

-- ---- what a block has

-- as many bytes of contents as its owner wants
pub length-wanted : (z : ZoneState) (at : ℕ) (k : Kind) → length_of (content_of (owners_of z) at k) ≡ wanted_length z.heap.table k
length-wanted z at kind.Free = refl
length-wanted z at kind.Master = refl
length-wanted z at (kind.Ptr p) = refl
length-wanted z at (kind.Rel h) = refl

-- the block that a number names has its bytes
pub named-held : (o : Owners) (at x : ℕ) (k : Kind) → is_named x k ≡ true → (has_bytes (content_of o at k) ≡ true) × (records.bytes_of (content_of o at k) ≡ o.bytes x)
named-held o at x kind.Free named = absurd (cc named)
named-held o at x kind.Master named = absurd (cc named)
named-held o at x (kind.Ptr p) named = (refl, ap o.bytes (eqb-true p x named))
named-held o at x (kind.Rel h) named = (refl, ap o.bytes (eqb-true h x named))

-- and is lent where its owner is
pub named-lent : (o : Owners) (x : ℕ) (k : Kind) → is_named x k ≡ true → lent_of o k ≡ o.lent x
named-lent o x kind.Free named = absurd (cc named)
named-lent o x kind.Master named = absurd (cc named)
named-lent o x (kind.Ptr p) named = ap o.lent (eqb-true p x named)
named-lent o x (kind.Rel h) named = ap o.lent (eqb-true h x named)

pub record OfNamed (r : ZoneRecords) (z : ZoneState) (x at : ℕ) : Type 0 where
  pub there : HeldAt r at
  pub bytes : records.bytes_of there.content ≡ bytes_of z.heap.table x

pub of-named : (r : ZoneRecords) (z : ZoneState) → Stands r z → (x at : ℕ) → is_lent z.heap.table x ≡ false → NamedAt z x at → OfNamed r z x at
of-named r z stands x at unlent n =
    let mine = of-entry r z stands.blocks at (record { before = n.before; here = n.here; after = n.after; map = n.map; place = n.place }) in
    let there = mine.there in
    let held = named-held (owners_of z) (at + head_size z.shape.heads) x n.here.kind n.named in
    record {
      there = record {
        before = there.before;
        size = n.here.size;
        content = content_of (owners_of z) (at + head_size z.shape.heads) n.here.kind;
        after = there.after;
        blocks = there.blocks ∙ ap (λ b. there.before ++ b ∷ there.after) mine.here
            ∙ ap (λ l. there.before ++ record { size = n.here.size; content = content_of (owners_of z) (at + head_size z.shape.heads) n.here.kind; lent = l } ∷ there.after) (named-lent (owners_of z) x n.here.kind n.named ∙ unlent);
        place = there.place;
        held = held.0;
      };
      bytes = held.1;
    }
