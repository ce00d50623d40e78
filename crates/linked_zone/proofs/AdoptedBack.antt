-- The blocks that a zone in bytes calls for are in these bytes, and say each other.
use Rattle.std.proofs.Common.{◌≡◌, ℕ, ◌+◌, ◌-◌, ◌*◌, ◌%◌, ◌<◌, ◌≤◌, ◌^◌, ◌==◌, true, false, nat_lt, cond, eqb, List, [], ◌∷◌, ◌++◌, length, map, drop, Option, Some, None, refl, ap, sym, ◌∙◌, subst, arith, append_assoc, length-drop, take-append-drop, Contains}
use Rattle.std.specs.Prelude.{slice_index, nat_eq}
use Rattle.std.specs.List.{All, IsDistinct, list_all, list_any, filter}
use Rattle.std.proofs.lemmas.Bool.Decides.{nat_tests}
use Rattle.std.proofs.lemmas.Bool.{and_parts, and_from}
use Rattle.std.proofs.lemmas.List.Elements.{All-head, All-tail}
use Rattle.mac_base.proofs.Reach.{end-small}
use Rattle.mac_base.specs.declared.block.Flags.{Flags}
use Rattle.mac_base.specs.declared.block.Kind.{Kind}
use Rattle.mac_base.specs.declared.block.Kind.TheVariants as kind
use Rattle.mac_base.specs.HandleTable.{Live, EmptyHandle, FullHandle, Pointer, live_at, live_full, live_handle, is_full, is_handle}
use Rattle.mac_base.specs.HeadKind.{Shape, address_end, head_size, slot_count, zone_header}
use Rattle.mac_base.specs.Loans.{LoansFit, owners}
use Rattle.mac_base.specs.Suits.{free_apart, slots}
use Rattle.mac_base.specs.ZoneMap.{block, address_after, contents_of, total_size}
use Rattle.mac_base.specs.ZoneSizes.{ZoneSizes, ArePossible}
use Rattle.mac_base.specs.ZoneState.{ZoneState}
use Rattle.zone_laws.proofs.SlotOwners.{rooms-suits}
use Rattle.zone_laws.proofs.SlotPlaces.{Contains-here, Contains-later}
use Rattle.zone_laws.proofs.Tables.{eqb_same, not_live}
use Rattle.block_bytes.specs.Adopting as blocks
use Rattle.block_bytes.specs.declared.header.Role.{Role}
use Rattle.block_bytes.specs.declared.header.Role.TheVariants as role
use Rattle.block_bytes.specs.Layout as raw
use Rattle.block_bytes.specs.Layout.{RawBlock, Layout, header_bytes, rendered}
use Rattle.zone_records.proofs.Apart.{read, read-append, total-read}
use Rattle.zone_records.proofs.Lending.{count-read}
use Rattle.zone_records.proofs.ReadSlots.{length-slots_in}
use Rattle.zone_records.proofs.Words.{length-words}
use Rattle.zone_records.specs.Adopting as records
use Rattle.zone_records.specs.Adopting.{AreChained, AreLinked, Follow, HasBlock, HasSlot}
use Rattle.zone_records.specs.declared.slot.Slot.{Slot}
use Rattle.zone_records.specs.declared.slot.Slot.TheVariants as slot
use Rattle.zone_records.specs.Places.{HandleBlockAt, FreePair}
use Rattle.zone_records.specs.Reading.{AreSound, HasWords, has_use, is_sound, content_in, records_in}
use Rattle.zone_records.specs.Records.{BlockRecord, ZoneRecords, Free, Fixed, Master, Relocatable, block_record, handle_record, total_of}
use Rattle.zone_records.specs.Records as zone_records
use Rattle.zone_records.specs.Slots.{slots_of_zone}
use Rattle.zone_records.specs.Word.{slots_in}
use Rattle.linked_zone.specs.Adopting.{IsZoneIn}
use Rattle.linked_zone.specs.Owned.{Owners, owners_of, content_of, next_free, slot_flags, slot_of, slot_of_live, records_of}
use Rattle.linked_zone.specs.Places.{BlockOf, EntryAt}
use Rattle.linked_zone.specs.Reading.{map_in}
use Rattle.linked_zone.proofs.AdoptedFits.{none-lent}
use Rattle.linked_zone.proofs.AdoptedZone.{lengths-same}
use Rattle.linked_zone.proofs.ChangeEmptied.{emptied-contents, emptied-slot}
use Rattle.linked_zone.proofs.EndsSaid.{slot-range}
use Rattle.linked_zone.proofs.Found.{block-full, full-slot}
use Rattle.linked_zone.proofs.Located.{of-entry, of-record}
use Rattle.linked_zone.proofs.Numbered.{Contains-mapped, Contains-map}
use Rattle.linked_zone.proofs.Owning.{records-total}
use Rattle.linked_zone.proofs.ReadBack.{all-pointers, slot_no_pointer}
use Rattle.linked_zone.proofs.ReadBlocks.{map-back, slots-back}
use Rattle.linked_zone.proofs.ReadFree.{others_apart}
use Rattle.linked_zone.proofs.Standing.{Stands}
use Rattle.linked_zone.proofs.Unlent.{count-read as count-lent}

-- the kind of a block with a handle
handle-kind : (o : Owners) (at : ℕ) (k : Kind) (h : ℕ) (flags : Flags) (bytes : List ℕ) → Relocatable h flags bytes ≡ content_of o at k → k ≡ kind.Rel h
handle-kind o at kind.Free h flags bytes is = absurd (cc is)
handle-kind o at kind.Master h flags bytes is = absurd (cc is)
handle-kind o at (kind.Ptr p) h flags bytes is = absurd (cc is)
handle-kind o at (kind.Rel g) h flags bytes is = let same : h ≡ g = cc is in ap (λ x. kind.Rel x) (sym same)

-- two free neighbours in a map
not-apart : (s : Shape) (at : ℕ) (before : List BlockRecord) (first second : ℕ) (after : List BlockRecord) → free_apart (map_in s at (before ++ block_record Free first ∷ block_record Free second ∷ after)) ≡ true → ⊥
not-apart s at [] first second after apart = cc apart
not-apart s at (b ∷ before) first second after apart = not-apart s (at + b.size) before first second after (and_parts _ _ apart).1

module _ (z : ZoneState) (stands : Stands (records_of z) z) where
  -- the entry of a handle's block
  record HandleEntry (at : ℕ) (b : HandleBlockAt (records_of z) at) : Type 0 where
    entry : EntryAt z at
    kind : entry.here.kind ≡ kind.Rel b.handle
    full : is_full z.heap.table b.handle ≡ true

  handle-entry : (at : ℕ) (b : HandleBlockAt (records_of z) at) → HandleEntry at b
  handle-entry at b =
      let mine = of-record (records_of z) z refl at (record { before = b.before; here = handle_record b.handle b.flags b.bytes b.size b.lent; after = b.after; blocks = b.blocks; place = b.place }) in
      let is = handle-kind (owners_of z) (at + head_size z.shape.heads) mine.entry.here.kind b.handle b.flags b.bytes (ap (λ (b : BlockRecord). b.content) mine.here) in
      record { entry = mine.entry; kind = is; full = block-full z stands.fits at b.handle mine.entry is }

  -- the slots are those of the map, and say what the zone calls for
  slots-are : slots_of_zone (records_of z) ≡ map (λ a. (a, slot_of z a)) (slots z.shape z.heap.map)
  slots-are = slots-back (owners_of z) z.shape (address_after z.shape []) z.heap.map

  slot-there : (x : ℕ) (sl : Slot) → Contains (slots z.shape z.heap.map) x → slot_of z x ≡ sl → Contains (slots_of_zone (records_of z)) (x, sl)
  slot-there x sl c is = subst (λ s. Contains (slots_of_zone (records_of z)) (x, s)) is (subst (λ xs. Contains xs (x, slot_of z x)) (sym slots-are) (Contains-mapped (λ a. (a, slot_of z a)) (slots z.shape z.heap.map) x c))

  slot-said : (x : ℕ) (sl : Slot) → Contains (slots_of_zone (records_of z)) (x, sl) → Contains (slots z.shape z.heap.map) x × (slot_of z x ≡ sl)
  slot-said x sl c =
      let from = Contains-map (λ a. (a, slot_of z a)) (slots z.shape z.heap.map) (x, sl) (subst (λ xs. Contains xs (x, sl)) slots-are c) in
      let key : from.0 ≡ x = ap (λ (e : ℕ × Slot). e.0) from.2 in
      (subst (Contains (slots z.shape z.heap.map)) key from.1, ap (slot_of z) (sym key) ∙ ap (λ (e : ℕ × Slot). e.1) from.2)

  -- the slot of a handle with a block
  full-slot-of : (h contents : ℕ) → is_full z.heap.table h ≡ true → contents_of z.shape h z.heap.map ≡ contents → (f : Flags) × (slot_of z h ≡ slot.Full f contents)
  full-slot-of h contents full begin = by_case (live_at z.heap.table h) full
    where
      by_case : (o : Option Live) → live_full o ≡ true → (f : Flags) × (slot_of_live z.shape.heads o (contents_of z.shape h z.heap.map) (next_free z.heap.free_slots h) ≡ slot.Full f contents)
      by_case None full = absurd (cc full)
      by_case (Some EmptyHandle) full = absurd (cc full)
      by_case (Some (FullHandle f bytes)) full = (slot_flags z.shape.heads f, ap (slot.Full (slot_flags z.shape.heads f)) begin)
      by_case (Some (Pointer bytes)) full = absurd (cc full)

  blocks-say : (at : ℕ) (b : HandleBlockAt (records_of z) at) → HasSlot (records_of z) at b
  blocks-say at b =
      let e = handle-entry at b in
      let there : BlockOf z b.handle at = record { before = e.entry.before; size = e.entry.here.size; after = e.entry.after; map = e.entry.map ∙ ap (λ k. e.entry.before ++ block k e.entry.here.size ∷ e.entry.after) e.kind; place = e.entry.place } in
      let says = full-slot-of b.handle (at + head_size z.shape.heads) e.full (emptied-contents z b.handle stands.fits e.full at there) in
      record { flags = says.0; slot_is = slot-there b.handle (slot.Full says.0 (at + head_size z.shape.heads)) (emptied-slot z b.handle stands.fits e.full) says.1 }

  slots-say : (h : ℕ) (flags : Flags) (contents : ℕ) → Contains (slots_of_zone (records_of z)) (h, slot.Full flags contents) → HasBlock (records_of z) h contents
  slots-say h flags contents c =
      let said = slot-said h (slot.Full flags contents) c in
      let f = full-slot z stands.fits h flags contents (head_size z.shape.heads) (sym said.1) refl in
      let at = contents - head_size z.shape.heads in
      let mine = of-entry (records_of z) z refl at (record { before = f.block.before; here = block (kind.Rel h) f.block.size; after = f.block.after; map = f.block.map; place = f.block.place }) in
      let above = f.above in
      let here = handle_record h ((owners_of z).flags h) ((owners_of z).bytes h) f.block.size ((owners_of z).lent h) in
      let blocks : (records_of z).blocks ≡ mine.there.before ++ here ∷ mine.there.after = subst (λ b. (records_of z).blocks ≡ mine.there.before ++ b ∷ mine.there.after) mine.here mine.there.blocks in
      record {
        at = at;
        block = record {
          before = mine.there.before;
          size = f.block.size;
          handle = h;
          flags = (owners_of z).flags h;
          bytes = (owners_of z).bytes h;
          lent = (owners_of z).lent h;
          after = mine.there.after;
          blocks = blocks;
          place = mine.there.place;
        };
        handle_is = refl;
        place = omega arith;
      }

  -- a slot that says that it is free isn't live
  free-said : (x next : ℕ) → slot_of z x ≡ slot.Free next → is_handle z.heap.table x ≡ false
  free-said x next is = by_case (live_at z.heap.table x) is
    where
      by_case : (o : Option Live) → slot_of_live z.shape.heads o (contents_of z.shape x z.heap.map) (next_free z.heap.free_slots x) ≡ slot.Free next → live_handle o ≡ false
      by_case None is = refl
      by_case (Some EmptyHandle) is = absurd (cc is)
      by_case (Some (FullHandle f bytes)) is = absurd (cc is)
      by_case (Some (Pointer bytes)) is = refl

  -- the free slots follow one another
  follow-on : (xs : List ℕ) → ((x : ℕ) → Contains xs x → Contains z.heap.free_slots x) → IsDistinct nat_eq xs → ((x : ℕ) → Contains xs x → next_free z.heap.free_slots x ≡ next_free xs x) → Follow (slots_of_zone (records_of z)) (slice_index xs 0) xs
  unfolding Follow IsDistinct
  follow-on [] each once same = refl
  follow-on (x ∷ xs) each once same =
      let both = (stands.fits.slots.free x).0 (each x (Contains-here x xs)) in
      let dead : live_at z.heap.table x ≡ None = not_live z.heap.table x both.1 (slot_no_pointer z stands.fits stands.rooms x both.0) in
      let next : next_free z.heap.free_slots x ≡ slice_index xs 0 = same x (Contains-here x xs) ∙ ap (λ b. cond b (slice_index xs 0) (next_free xs x)) (eqb_same x) in
      let says : slot_of z x ≡ slot.Free (slice_index xs 0) = ap (λ o. slot_of_live z.shape.heads o (contents_of z.shape x z.heap.map) (next_free z.heap.free_slots x)) dead ∙ ap slot.Free next in (
        refl,
        (
          slice_index xs 0,
          (
            slot-there x (slot.Free (slice_index xs 0)) both.0 says,
            follow-on xs (λ y c. each y (Contains-later x xs y c)) once.1 (λ y c. same y (Contains-later x xs y c) ∙ ap (λ b. cond b (slice_index xs 0) (next_free xs y)) (others_apart x xs y once.0 c)),
          ),
        ),
      )

  chained-back : AreChained (records_of z)
  chained-back = record {
    free = z.heap.free_slots;
    follow = follow-on z.heap.free_slots (λ x c. c) stands.fits.slots.once (λ x c. refl);
    all = λ h next c. let said = slot-said h (slot.Free next) c in (stands.fits.slots.free h).1 (said.0, free-said h next said.1);
    once = stands.fits.slots.once;
  }

  pub linked-back : AreLinked (records_of z)
  linked-back = record { blocks = blocks-say; slots = slots-say; free = chained-back }

  -- no two free blocks are neighbours
  pub apart-back : free_apart z.heap.map ≡ true → (at : ℕ) → FreePair (records_of z) at → ⊥
  apart-back apart at pair =
      let back = map-back (owners_of z) z.shape z.heap.table (address_after z.shape []) z.heap.map (all-pointers z stands.fits stands.rooms) in
      not-apart z.shape (address_after z.shape []) pair.before pair.first pair.second pair.after
      (sym (ap free_apart (sym back ∙ ap (map_in z.shape (address_after z.shape [])) pair.blocks)) ∙ apart)

-- ---- the blocks of bytes

-- whether a block has what it is for
module _ (l : Layout) (z : ZoneState) (stands : Stands (records_of z) z) (is : read l.heads l.base l.blocks ≡ (records_of z).blocks) (words : All (HasWords l.heads) l.blocks) where
  -- a master block has its slots' words, and a handle has 32 bits
  use-is : (before : List RawBlock) (b : RawBlock) (after : List RawBlock) → l.blocks ≡ before ++ b ∷ after → HasWords l.heads b → has_use l.base b.role (length b.contents) ≡ true
  use-is before b after split words = by_role b.role refl
    where
      by_role : (r : Role) → b.role ≡ r → has_use l.base r (length b.contents) ≡ true
      by_role role.Free same = refl
      by_role role.Fixed same = refl
      by_role role.Master same =
          let long : length b.contents ≡ 256 = ap length (words same) ∙ length-words l.heads (slots_in l.heads slot_count b.contents) ∙ ap (λ n. 4 * n) (length-slots_in l.heads slot_count b.contents) in
          let test : (length b.contents == 256) ≡ true = grind (arith, nat_tests) in test
      by_role (role.Relocatable offset flags) same =
          let first = read l.heads l.base before in
          let blocks : (records_of z).blocks ≡ first ++ handle_record (l.base + offset) flags b.contents (raw.size_of l.heads b) b.lent ∷ read l.heads l.base after =
          sym is ∙ ap (read l.heads l.base) split ∙ read-append l.heads l.base before (b ∷ after)
          ∙ ap (λ (r : Role). first ++ record { size = raw.size_of l.heads b; content = content_in l.heads l.base r b.contents; lent = b.lent } ∷ read l.heads l.base after) same in
          let there : HandleBlockAt (records_of z) (zone_records.address_after z.shape first) = record { before = first; size = raw.size_of l.heads b; handle = l.base + offset; flags = flags; bytes = b.contents; lent = b.lent; after = read l.heads l.base after; blocks = blocks; place = refl } in
          let e = handle-entry z stands (zone_records.address_after z.shape first) there in
          let range = (slot-range (records_of z) z stands (l.base + offset) (emptied-slot z (l.base + offset) stands.fits e.full)).1 in
          let small = end-small z.shape.heads in
          let test : nat_lt (l.base + offset) (2 ^ 32) ≡ true = (let below : l.base + offset < 0x1_0000_0000 = omega arith in grind (arith, nat_tests)) in test

  sound-all : (before bs : List RawBlock) → l.blocks ≡ before ++ bs → list_all (raw.is_possible l.heads) bs ≡ true → All (HasWords l.heads) bs → list_all (is_sound l.heads l.base) bs ≡ true
  sound-all before [] split possible words = refl
  sound-all before (b ∷ bs) split possible words =
      let parts = and_parts (raw.is_possible l.heads b) (list_all (raw.is_possible l.heads) bs) possible in
      and_from _ _ (and_from _ _ parts.0 (use-is before b bs split (All-head (HasWords l.heads) b bs words)))
      (sound-all (before ++ b ∷ []) bs (split ∙ sym (append_assoc before (b ∷ []) bs)) parts.1 (All-tail (HasWords l.heads) b bs words))

  pub sound-back : list_all (raw.is_possible l.heads) l.blocks ≡ true → list_all (is_sound l.heads l.base) l.blocks ≡ true
  sound-back possible = sound-all [] l.blocks refl possible words

-- ---- the zone

module _ (spec : ZoneSizes) (possible : ArePossible spec) (bytes : List ℕ) (z : ZoneState) (zone : IsZoneIn spec bytes z) where
  loans-none : LoansFit z.heap
  loans-none = record {
    in_order = zone.nothing_lent ∙ sym (ap (λ xs. filter (λ x. list_any (λ y. eqb y x) xs) (owners z.heap.map)) zone.nothing_lent ∙ none-lent (owners z.heap.map));
    few = let none = ap length zone.nothing_lent in omega arith;
  }

  -- its blocks stand for it
  pub stands-in : Stands (records_of z) z
  stands-in = record {
    blocks = refl;
    fits = record { coherent = zone.sound.suits.coherent; slots = zone.sound.slots; loans = loans-none };
    sizes = zone.sound.suits.sizes;
    rooms = rooms-suits z.shape z.heap.table z.heap.map zone.sound.suits;
    within = zone.sound.within;
    even = ap (λ (s : ZoneSizes). s.base % 4) zone.sizes ∙ possible.even_base;
    low = subst (λ (s : ZoneSizes). 0x1000 ≤ s.base) (sym zone.sizes) possible.base_high_enough;
    high = subst (λ (s : ZoneSizes). s.base + s.limit ≤ address_end s.heads) (sym zone.sizes) possible.end_low_enough;
  }

  abbrev size : ℕ
  size = zone_header + total_size z.heap.map

  -- the blocks of bytes, with the bytes after them
  abbrev pub layout_in : Layout
  layout_in = record zone.inside.image.layout { spare = drop size bytes }

  abbrev l : Layout
  l = zone.inside.image.layout

  abbrev same : records_in l ≡ records_of z
  same = zone.inside.image.same

  total-in : raw.total_of l.heads l.blocks ≡ total_size z.heap.map
  total-in = sym (total-read l.heads l.base l.blocks) ∙ ap (λ (r : ZoneRecords). total_of r.blocks) same ∙ records-total (owners_of z) z.shape (address_after z.shape []) z.heap.map

  limit-in : zone_header + raw.total_of l.heads l.blocks + length (drop size bytes) ≡ z.shape.limit
  limit-in =
      let rest = length-drop size bytes in
      let all = zone.inside.all in
      let within = zone.sound.within in
      let total = total-in in omega arith

  same-in : records_in layout_in ≡ records_of z
  same-in = λ i. record { memory = (same i).memory; shape = record { heads = (same i).shape.heads; base = (same i).shape.base; limit = limit-in i }; front = (same i).front; blocks = (same i).blocks }

  heads-in : l.heads ≡ spec.heads
  heads-in = ap (λ (r : ZoneRecords). r.shape.heads) same ∙ ap (λ (s : ZoneSizes). s.heads) zone.sizes

  base-in : l.base ≡ spec.base
  base-in = ap (λ (r : ZoneRecords). r.shape.base) same ∙ ap (λ (s : ZoneSizes). s.base) zone.sizes

  pub blocks-in : blocks.IsZoneIn spec bytes layout_in
  blocks-in = record {
    heads = heads-in;
    base = base-in;
    all = zone.inside.all ∙ ap (λ (s : ZoneSizes). s.limit) zone.sizes;
    image = sym (append_assoc (header_bytes l) (rendered l.heads l.base l.blocks) (drop size bytes)) ∙ ap (λ (xs : List ℕ). xs ++ drop size bytes) (sym zone.inside.image.form) ∙ take-append-drop size bytes;
    ends = let base = base-in in let total = total-in in let size = ap (λ (s : ZoneSizes). s.size) zone.sizes in omega arith;
    possible = subst (λ heads. list_all (raw.is_possible heads) l.blocks ≡ true) heads-in zone.inside.image.possible;
    unlent = sym (count-read l.heads l.base l.blocks) ∙ ap (λ (r : ZoneRecords). zone_records.lent_count r.blocks) same ∙ count-lent (records_of z) z stands-in ∙ ap length zone.nothing_lent;
  }

  sound-in : AreSound layout_in
  sound-in = record {
    blocks = sound-back l z stands-in (ap (λ (r : ZoneRecords). r.blocks) same) zone.inside.image.words zone.inside.image.possible;
    words = zone.inside.image.words;
    even = ap (λ (r : ZoneRecords). r.shape.base % 4) same ∙ stands-in.even;
    high = subst (λ (r : ZoneRecords). r.shape.base + r.shape.limit ≤ address_end r.shape.heads) (sym same-in) stands-in.high;
  }

  -- they are in the bytes
  pub records-in : records.IsZoneIn spec bytes (records_of z)
  records-in = record {
    layout = layout_in;
    zone = blocks-in;
    sound = sound-in;
    same = same-in;
    links = linked-back z stands-in;
    tight = record { apart = apart-back z stands-in zone.sound.suits.apart; lengths = lengths-same z z.shape (address_after z.shape []) z.heap.map ∙ zone.sound.suits.lengths };
  }
