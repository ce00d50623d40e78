-- Blocks and slots that say each other are those that the zone which they stand for calls for.
use Rattle.std.proofs.Common.{◌≡◌, ℕ, zero, suc, ◌+◌, Bool, true, false, ◌||◌, List, [], ◌∷◌, ◌++◌, length, map, refl, ap, sym, ◌∙◌, subst, arith, append_assoc, Contains, inl, inr}
use Rattle.std.specs.List.{All}
use Rattle.std.proofs.lemmas.List.Elements.{All-head, All-tail, All-contains, Contains-append_cases, Contains-append_left, Contains-append_right}
use Rattle.mac_base.specs.declared.block.Flags.{Flags}
use Rattle.mac_base.specs.declared.block.HeadKind.{HeadKind}
use Rattle.mac_base.specs.declared.block.HeadKind.TheVariants.{Bits24, Bits32}
use Rattle.mac_base.specs.HandleTable.{live_bytes, live_flags, live_full, is_full}
use Rattle.mac_base.specs.HeadKind.{Shape, head_size, slot_count}
use Rattle.mac_base.specs.Suits.{slots_from}
use Rattle.mac_base.specs.ZoneMap.{contents_of}
use Rattle.mac_base.specs.ZoneState.{ZoneState}
use Rattle.zone_records.specs.Adopting.{AreLinked}
use Rattle.zone_records.specs.declared.slot.Slot.{Slot}
use Rattle.zone_records.specs.declared.slot.Slot.TheVariants as slot
use Rattle.zone_records.specs.Places.{HandleBlockAt}
use Rattle.zone_records.specs.Records.{Content, BlockRecord, ZoneRecords, Free, Fixed, Master, Relocatable, handle_record, kind_of, total_of}
use Rattle.zone_records.specs.Slots.{addressed, slots_of, all_slots, slots_of_zone}
use Rattle.linked_zone.specs.Owned.{slot_flags, header_flags, next_free, slot_of_live, slot_of, owners_of, content_of, lent_of, records_from, records_of}
use Rattle.linked_zone.specs.Places.{BlockOf}
use Rattle.linked_zone.specs.Reading.{map_in, either_flags}
use Rattle.linked_zone.proofs.AdoptedFits.{start, head, read_map, read_table, slots-rise, live-slot, live-pointer, first-follows, each-names, handle-found, live-handle, read_zone, read-fits}
use Rattle.linked_zone.proofs.ChangeEmptied.{emptied-contents}
use Rattle.linked_zone.proofs.Numbered.{none_is, cons_cases, first_is, later_is, one-at}
use Rattle.linked_zone.proofs.Readable.{IsReadable, SlotSays, ContentSays, All-at, map_in-append, map_in-total, flags_in, block_found}
use Rattle.linked_zone.proofs.TwoPlaces.{total_of-append}

-- ---- flags

-- of flags that slot and header say, the slot says its own
slot-either : (heads : HeadKind) (f g : Flags) → slot_flags heads f ≡ f → header_flags heads g ≡ g → slot_flags heads (either_flags f g) ≡ f
slot-either Bits24 f g says others = ap (either_flags f) (sym others) ∙ (λ i. record { lock = or_false f.lock i; purge = or_false f.purge i; resource = or_false f.resource i })
  where
    or_false : (b : Bool) → (b || false) ≡ b
    or_false true = refl
    or_false false = refl
slot-either Bits32 f g says others = says

-- and the header its own
header-either : (heads : HeadKind) (f g : Flags) → slot_flags heads f ≡ f → header_flags heads g ≡ g → header_flags heads (either_flags f g) ≡ g
header-either Bits24 f g says others = others
header-either Bits32 f g says others = ap (λ k. either_flags k g) (sym says)

-- ---- slots

addressed-one : (at : ℕ) (ss : List Slot) (x : ℕ) (sl : Slot) → Contains (addressed at ss) (x, sl) → Contains ss sl
addressed-one at [] x sl c = absurd (none_is (x, sl) c)
addressed-one at (s ∷ ss) x sl c = elim (cons_cases (at, s) (addressed (at + 4) ss) (x, sl) c) [
  | inl is ↦ subst (Contains (s ∷ ss)) (ap (λ e. e.1) is) (first_is s ss)
  | inr later ↦ later_is s ss sl (addressed-one (at + 4) ss x sl later)
]

-- each slot says no flags but those that slots say
slots-say : (s : Shape) (at : ℕ) (bs : List BlockRecord) → All (IsReadable s) bs → (x : ℕ) (sl : Slot) → Contains (all_slots s at bs) (x, sl) → SlotSays s.heads sl
slots-say s at [] all x sl c = absurd (none_is (x, sl) c)
slots-say s at (b ∷ bs) all x sl c = elim (Contains-append_cases (slots_of (at + head_size s.heads) b.content) (all_slots s (at + b.size) bs) (x, sl) c) [
  | inl first ↦ in_block b.content (All-head (IsReadable s) b bs all).says first
  | inr later ↦ slots-say s (at + b.size) bs (All-tail (IsReadable s) b bs all) x sl later
]
  where
    in_block : (content : Content) → ContentSays s.heads content → Contains (slots_of (at + head_size s.heads) content) (x, sl) → SlotSays s.heads sl
    in_block Free says c = absurd (none_is (x, sl) c)
    in_block (Fixed bytes) says c = absurd (none_is (x, sl) c)
    in_block (Master ss) says c = All-contains (SlotSays s.heads) ss sl says.1 (addressed-one (at + head_size s.heads) ss x sl c)
    in_block (Relocatable h flags bytes) says c = absurd (none_is (x, sl) c)

-- slots are what a function makes of their addresses, where each is
slots-made : (f : ℕ → Slot) (n at : ℕ) (ss : List Slot) → length ss ≡ n → ((x : ℕ) (sl : Slot) → Contains (addressed at ss) (x, sl) → f x ≡ sl) → map f (slots_from n at) ≡ ss
slots-made f zero at [] long each = refl
slots-made f zero at (s ∷ ss) long each = absurd (omega arith)
slots-made f (suc n) at [] long each = absurd (omega arith)
slots-made f (suc n) at (s ∷ ss) long each =
    ap (λ y. y ∷ map f (slots_from n (at + 4))) (each at s (first_is (at, s) (addressed (at + 4) ss)))
    ∙ ap (λ ys. s ∷ ys) (slots-made f n (at + 4) ss (omega arith) (λ x sl c. each x sl (later_is (at, s) (addressed (at + 4) ss) (x, sl) c)))

-- the slots of a block are among all
slots-there : (s : Shape) (at : ℕ) (before : List BlockRecord) (b : BlockRecord) (after : List BlockRecord) (a : ℕ) (e : ℕ × Slot) → a ≡ at + total_of before → Contains (slots_of (a + head_size s.heads) b.content) e → Contains (all_slots s at (before ++ b ∷ after)) e
slots-there s at [] b after a e place c =
    let same : a ≡ at = omega arith in
    Contains-append_left (slots_of (at + head_size s.heads) b.content) (all_slots s (at + b.size) after) e (subst (λ n. Contains (slots_of (n + head_size s.heads) b.content) e) same c)
slots-there s at (x ∷ before) b after a e place c =
    Contains-append_right (slots_of (at + head_size s.heads) x.content) (all_slots s (at + x.size) (before ++ b ∷ after)) e (slots-there s (at + x.size) before b after a e (omega arith) c)

module _ (r : ZoneRecords) (all : All (IsReadable r.shape) r.blocks) (links : AreLinked r) where
  abbrev z : ZoneState
  z = read_zone r all links

  -- the header of a handle's block says no flags but its own
  header-says : (at : ℕ) (b : HandleBlockAt r at) → header_flags r.shape.heads b.flags ≡ b.flags
  header-says at b = (All-at (IsReadable r.shape) b.before (handle_record b.handle b.flags b.bytes b.size b.lent) b.after (subst (All (IsReadable r.shape)) b.blocks all)).says

  -- the block of a handle is one of the zone's
  block-of : (at : ℕ) (b : HandleBlockAt r at) → BlockOf z b.handle at
  block-of at b = let place = b.place in let total = map_in-total r.shape (start r all) b.before in record {
    before = map_in r.shape (start r all) b.before;
    size = b.size;
    after = map_in r.shape (start r all + total_of b.before + b.size) b.after;
    map = ap (map_in r.shape (start r all)) b.blocks ∙ map_in-append r.shape (start r all) b.before (handle_record b.handle b.flags b.bytes b.size b.lent ∷ b.after);
    place = omega arith;
  }

  -- each slot says what the zone calls for
  slot-back : (x : ℕ) (sl : Slot) → Contains (slots_of_zone r) (x, sl) → slot_of z x ≡ sl
  slot-back x (slot.Free next) c =
      let n = each-names (slots_of_zone r) r.front links.free.free links.free.follow x (links.free.all x next c) in
      let same : slot.Free n.next ≡ slot.Free next = one-at 0 (slots_of_zone r) x (slot.Free n.next) (slot.Free next) (slots-rise r all) n.slot c in
      ap (λ o. slot_of_live r.shape.heads o (contents_of r.shape x (read_map r all)) (next_free links.free.free x)) (live-slot r all x (slot.Free next) c) ∙ ap slot.Free n.after ∙ same
  slot-back x slot.Empty c = ap (λ o. slot_of_live r.shape.heads o (contents_of r.shape x (read_map r all)) (next_free links.free.free x)) (live-slot r all x slot.Empty c)
  slot-back x (slot.Full flags contents) c =
      let b = links.slots x flags contents c in
      let found : block_found x r.blocks ≡ Relocatable b.block.handle b.block.flags b.block.bytes = ap (λ h. block_found h r.blocks) (sym b.handle_is) ∙ handle-found r all links b.at b.block in
      let live = live-slot r all x (slot.Full flags contents) c in
      let full : is_full (read_table r all) b.block.handle ≡ true = ap (is_full (read_table r all)) b.handle_is ∙ ap live_full live in
      let begin : contents_of r.shape x (read_map r all) ≡ contents =
      ap (λ h. contents_of r.shape h (read_map r all)) (sym b.handle_is) ∙ emptied-contents z b.block.handle (read-fits r all links) full b.at (block-of b.at b.block) ∙ sym b.place in
      ap (λ o. slot_of_live r.shape.heads o (contents_of r.shape x (read_map r all)) (next_free links.free.free x)) live
      ∙ ap (λ f. slot.Full (slot_flags r.shape.heads (either_flags flags (flags_in f))) (contents_of r.shape x (read_map r all))) found
      ∙ ap (λ f. slot.Full f (contents_of r.shape x (read_map r all))) (slot-either r.shape.heads flags b.block.flags (slots-say r.shape (start r all) r.blocks all x (slot.Full flags contents) c) (header-says b.at b.block))
      ∙ ap (slot.Full flags) begin

  -- so does what is in each block
  content-back : (before : List BlockRecord) (size : ℕ) (c : Content) (lent : Bool) (after : List BlockRecord) (at : ℕ) → r.blocks ≡ before ++ record { size = size; content = c; lent = lent } ∷ after → at ≡ start r all + total_of before
      → content_of (owners_of z) (at + head r all) (kind_of (at + head r all) c) ≡ c
  content-back before size Free lent after at split place = refl
  content-back before size (Fixed bytes) lent after at split place =
      ap (λ o. Fixed (live_bytes o)) (live-pointer r all (at + head r all) bytes (record { before = before; size = size; lent = lent; after = after; blocks = split; place = omega arith }))
  content-back before size (Master ss) lent after at split place =
      let b : BlockRecord = record { size = size; content = Master ss; lent = lent } in
      let says = (All-at (IsReadable r.shape) before b after (subst (All (IsReadable r.shape)) split all)).says in
      ap Master (slots-made (slot_of z) slot_count (at + head r all) ss says.0 (λ x sl c. slot-back x sl
      (subst (λ (bs : List BlockRecord). Contains (all_slots r.shape (start r all) bs) (x, sl)) (sym split) (slots-there r.shape (start r all) before b after at (x, sl) place c))))
  content-back before size (Relocatable h flags bytes) lent after at split place =
      let b : HandleBlockAt r at = record { before = before; size = size; handle = h; flags = flags; bytes = bytes; lent = lent; after = after; blocks = split; place = omega arith } in
      let s = links.blocks at b in
      ap (λ o. Relocatable h (header_flags r.shape.heads (live_flags o)) (live_bytes o)) (live-handle r all links at b)
      ∙ ap (λ f. Relocatable h f bytes) (header-either r.shape.heads s.flags flags (slots-say r.shape (start r all) r.blocks all h (slot.Full s.flags (at + head r all)) s.slot_is) (header-says at b))

  lent-back : (at : ℕ) (b : BlockRecord) → IsReadable r.shape b → lent_of (owners_of z) (kind_of at b.content) ≡ b.lent
  lent-back at b readable = by_content b.content ∙ sym readable.unlent
    where
      by_content : (c : Content) → lent_of (owners_of z) (kind_of at c) ≡ false
      by_content Free = refl
      by_content (Fixed bytes) = refl
      by_content (Master ss) = refl
      by_content (Relocatable h flags bytes) = refl

  blocks-back : (before bs : List BlockRecord) (at : ℕ) → r.blocks ≡ before ++ bs → at ≡ start r all + total_of before → records_from (owners_of z) r.shape at (map_in r.shape at bs) ≡ bs
  blocks-back before [] at split place = refl
  blocks-back before (b ∷ bs) at split place =
      let rest = map_in r.shape (at + b.size) bs in
      let kind = kind_of (at + head r all) b.content in
      let readable = All-at (IsReadable r.shape) before b bs (subst (All (IsReadable r.shape)) split all) in
      let sum = total_of-append before (b ∷ []) in
      ap (λ c. record { size = b.size; content = c; lent = lent_of (owners_of z) kind } ∷ records_from (owners_of z) r.shape (at + b.size) rest) (content-back before b.size b.content b.lent bs at split place)
      ∙ ap (λ l. record { size = b.size; content = b.content; lent = l } ∷ records_from (owners_of z) r.shape (at + b.size) rest) (lent-back (at + head r all) b readable)
      ∙ ap (λ (cs : List BlockRecord). b ∷ cs) (blocks-back (before ++ b ∷ []) bs (at + b.size) (split ∙ sym (append_assoc before (b ∷ []) bs)) (omega arith))

  -- the blocks are those of the zone
  pub read-records : r ≡ records_of z
  read-records =
      let back = blocks-back [] r.blocks (start r all) refl (omega arith) in
      let first = first-follows (slots_of_zone r) r.front links.free.free links.free.follow in
      λ i. record { memory = r.memory; shape = r.shape; front = sym first i; blocks = sym back i }
