-- Slots: where they are, what they say, and one that is written.
use Rattle.std.proofs.Common.{◌≡◌, ℕ, ◌+◌, ◌-◌, ◌*◌, ◌/◌, ◌%◌, ◌<◌, ◌≤◌, true, List, [], ◌∷◌, ◌++◌, length, refl, ap, sym, ◌∙◌, subst, arith, inl, inr}
use Rattle.std.specs.Prelude.{IsTrue}
use Rattle.std.proofs.lemmas.Bool.Decides.{nat_tests}
use Rattle.std.proofs.lemmas.Bool.{and_from}
use Rattle.byteorder.specs.Endian.{big_bytes, big_number}
use Rattle.raw_region.specs.Bytes.{part, written, length-written}
use Rattle.mac_base.specs.declared.block.HeadKind.{HeadKind}
use Rattle.mac_base.specs.HeadKind.{head_size, slot_count}
use Rattle.block_bytes.specs.declared.header.Role.{Role}
use Rattle.block_bytes.specs.declared.header.Role.TheVariants as role
use Rattle.block_bytes.specs.Layout.{RawBlock, Layout, BlockAt, WordAt, size_of, with_blocks, with_word, address_after, has_owner}
use Rattle.block_bytes.specs.Finding.{HoldsByte, LiesOutside}
use Rattle.zone_records.specs.declared.slot.Slot.{Slot}
use Rattle.zone_records.specs.Records.{Master, BlockRecord, block_record, ZoneRecords}
use Rattle.zone_records.specs.Places.{SlotAt, can_say}
use Rattle.zone_records.specs.Changes.{with_slot}
use Rattle.zone_records.specs.Word.{slot_word, slot_in, slots_in, words_of}
use Rattle.zone_records.specs.Reading.{content_in, record_in, has_use, is_sound}
use Rattle.zone_records.proofs.Apart.{One}
use Rattle.zone_records.proofs.ReadSlots.{length-slots_in, slot-read, slot-written, slots_at}
use Rattle.zone_records.proofs.Words.{words-written}
use Rattle.zone_records.proofs.Held.{Held, heads-is, address-is, one, sound-one, range-one, words-one, words-at, changed}
use Rattle.zone_records.proofs.Ranked.{one-block, within}
use Rattle.zone_records.proofs.Looking.{of-block, sound-parts, not-lent}
use Rattle.zone_records.proofs.Holding.{sound-same}

-- a role that says a master block
pub master-role : (heads : HeadKind) (base : ℕ) (r : Role) (bytes : List ℕ) (slots : List Slot) → content_in heads base r bytes ≡ Master slots → (r ≡ role.Master) × (slots_in heads slot_count bytes ≡ slots)
master-role heads base role.Free bytes slots is = absurd (cc is)
master-role heads base role.Fixed bytes slots is = absurd (cc is)
master-role heads base role.Master bytes slots is = (refl, cc is)
master-role heads base (role.Relocatable offset flags) bytes slots is = absurd (cc is)

-- the contents of a sound one have so many bytes
pub master-long : (heads : HeadKind) (base : ℕ) (b : RawBlock) → is_sound heads base b ≡ true → b.role ≡ role.Master → length b.contents ≡ 256
master-long heads base b sound is = let here = ap (λ r. has_use base r (length b.contents)) (sym is) ∙ (sound-parts heads base b sound).use_is in grind (arith, nat_tests)

module _ (l : Layout) (z : ZoneRecords) (held : Held l z) where
  module _ (x : ℕ) (s : SlotAt z x) where
    -- its master block
    abbrev said : BlockRecord
    said = block_record (Master (s.slots_before ++ s.here ∷ s.slots_after)) s.size

    abbrev pub slot_one : One l s.before said s.after
    slot_one = one l z held s.before said s.after s.blocks

    abbrev b : RawBlock
    b = slot_one.block

    pub slot-role : (b.role ≡ role.Master) × (slots_in l.heads slot_count b.contents ≡ s.slots_before ++ s.here ∷ s.slots_after)
    slot-role = master-role l.heads l.base b.role b.contents (s.slots_before ++ s.here ∷ s.slots_after) (ap (λ (r : BlockRecord). r.content) slot_one.same)

    slot-sound : is_sound l.heads l.base b ≡ true
    slot-sound = sound-one l slot_one.first b slot_one.rest held.sound slot_one.blocks

    pub slot-long : length b.contents ≡ 256
    slot-long = master-long l.heads l.base b slot-sound slot-role.0

    pub slot-few : length s.slots_before < 64
    slot-few = (slot-read l.heads slot_count b.contents s.slots_before s.here s.slots_after slot-role.1).0

    pub slot-place : x ≡ address_after l slot_one.first + head_size l.heads + 4 * length s.slots_before
    slot-place =
        let here = address-is l z held slot_one.first s.before slot_one.lower in
        let head = ap head_size (heads-is l z held) in
        let place = s.place in
        omega arith

    -- its four bytes
    abbrev pub slot-word : WordAt l x
    slot-word = record {
      before = slot_one.first;
      here = b;
      after = slot_one.rest;
      offset = 4 * length s.slots_before;
      blocks = slot_one.blocks;
      place = slot-place;
      inside = (let few = slot-few in let long = slot-long in omega arith);
      unlent = ap (λ (r : BlockRecord). r.lent) slot_one.same;
    }

    -- what they say
    pub slot-said : (heads : HeadKind) (n : ℕ) → heads ≡ l.heads → ((w : WordAt l x) → n ≡ big_number 4 (part w.here.contents w.offset 4)) → slot_in heads n ≡ s.here
    slot-said heads n same says =
        ap (λ k. slot_in k n) same ∙ ap (slot_in l.heads) (says slot-word) ∙ sym (slot-read l.heads slot_count b.contents s.slots_before s.here s.slots_after slot-role.1).1

    -- once they say another
    pub slot-set : (new : Slot) (n : ℕ) (m : Layout) → n ≡ slot_word l.heads new → IsTrue (can_say l.heads new) → ((w : WordAt l x) → m ≡ with_blocks (w.before ++ with_word w.here w.offset n ∷ w.after) l) → Held m (with_slot new z s)
    slot-set new n m is sayable ends =
        let o = slot_one in
        let contents = written b.contents (4 * length s.slots_before) (big_bytes 4 (slot_word l.heads new)) in
        let long = length-written b.contents (4 * length s.slots_before) (big_bytes 4 (slot_word l.heads new)) in
        let whole = slot-long in
        let slots = slot-written l.heads slot_count b.contents s.slots_before s.here s.slots_after new (omega arith) sayable slot-role.1 in
        let words : contents ≡ words_of l.heads (slots_in l.heads slot_count contents) =
        ap (λ bytes. written bytes (4 * length s.slots_before) (big_bytes 4 (slot_word l.heads new))) (words-at l o.first b o.rest held.sound o.blocks slot-role.0 ∙ ap (words_of l.heads) slot-role.1)
        ∙ words-written l.heads s.slots_before s.here s.slots_after new ∙ sym (ap (words_of l.heads) slots) in
        let now : RawBlock = record b { contents = contents } in
        let rec : record_in l.heads l.base now ≡ block_record (Master (s.slots_before ++ new ∷ s.slots_after)) s.size = (λ i. record {
          size = ((let e : size_of l.heads now ≡ size_of l.heads b = omega arith in e) ∙ ap (λ (r : BlockRecord). r.size) o.same) i;
          content = (ap (λ r. content_in l.heads l.base r contents) slot-role.0 ∙ ap Master slots) i;
          lent = (ap (λ (r : BlockRecord). r.lent) o.same) i;
        }) in
        subst (λ m. Held m (with_slot new z s)) (sym (ends slot-word ∙ ap (λ n. with_blocks (o.first ++ with_word b (4 * length s.slots_before) n ∷ o.rest) l) is))
        (changed l z held o.first (b ∷ []) (now ∷ []) o.rest s.before (block_record (Master (s.slots_before ++ new ∷ s.slots_after)) s.size ∷ []) s.after o.blocks o.lower o.upper (ap (λ r. r ∷ []) rec) (omega arith)
        (and_from _ _ (sound-same l.heads l.base b contents long slot-sound) refl) (words-one l.heads now (λ is. words)))

    -- no slot lies outside all blocks
    pub no-slot_outside : LiesOutside l x → ⊥
    no-slot_outside outside =
        let start = address_after l slot_one.first in
        let range = within l start (record { before = slot_one.first; here = b; after = slot_one.rest; blocks = slot_one.blocks; place = refl }) in
        let low = range.0 in
        let high = range.1 in
        let place = slot-place in
        let few = slot-few in
        let long = slot-long in
        elim outside [ inl below ↦ omega arith | inr above ↦ omega arith ]

    -- it is at a multiple of four among the contents of a master block
    pub slot-found : (start first : ℕ) (h : HoldsByte l x start) → first ≡ start + head_size l.heads → (h.block.here.role ≡ role.Master) × (first ≤ x) × (x < first + 256) × ((x - first) % 4 ≡ 0)
    slot-found start first h is =
        let own = address_after l slot_one.first in
        let place = slot-place in
        let few = slot-few in
        let long = slot-long in
        let mine : BlockAt l own = record { before = slot_one.first; here = b; after = slot_one.rest; blocks = slot_one.blocks; place = refl } in
        let same = one-block l start own x h.block mine h.low h.high (omega arith) (omega arith) in
        let where_is = same.0 in
        let four : x - first ≡ 4 * length s.slots_before = omega arith in
        (ap (λ (b : RawBlock). b.role) same.1 ∙ slot-role.0, omega arith, omega arith, ap (λ n. n % 4) four ∙ omega arith)

  -- the slot at a place among the contents of a master block, and what it says
  pub slot-at : (x start k : ℕ) (b : BlockAt l start) → b.here.role ≡ role.Master → k < 64 → x ≡ start + head_size l.heads + 4 * k → (s : SlotAt z x) × (s.here ≡ slot_in l.heads (big_number 4 (part b.here.contents (4 * k) 4)))
  slot-at x start k b is few there =
      let r = of-block l z held start b in
      let sound = sound-one l b.before b.here b.after held.sound b.blocks in
      let all = slots_in l.heads slot_count b.here.contents in
      let count = length-slots_in l.heads slot_count b.here.contents in
      let parts = slots_at all k (omega arith) in
      let rec : record_in l.heads l.base b.here ≡ block_record (Master (parts.before ++ parts.here ∷ parts.after)) (size_of l.heads b.here) = (λ i. record {
        size = size_of l.heads b.here;
        content = (ap (λ r. content_in l.heads l.base r b.here.contents) is ∙ ap Master parts.slots) i;
        lent = (not-lent b.here.lent b.here.role (ap has_owner is) (sound-parts l.heads l.base b.here sound).owned) i;
      }) in
      let place = r.place in
      let head = ap head_size (heads-is l z held) in
      let index = parts.place in
      let slot : SlotAt z x = record {
        before = r.before;
        size = size_of l.heads b.here;
        slots_before = parts.before;
        here = parts.here;
        slots_after = parts.after;
        after = r.after;
        blocks = r.blocks ∙ ap (λ h. r.before ++ h ∷ r.after) rec;
        place = omega arith;
      } in
      (slot, (slot-read l.heads slot_count b.here.contents parts.before parts.here parts.after parts.slots).1 ∙ ap (λ j. slot_in l.heads (big_number 4 (part b.here.contents (4 * j) 4))) index)

  -- and each such number is a slot
  pub slot-made : (x start first : ℕ) (h : HoldsByte l x start) → first ≡ start + head_size l.heads → h.block.here.role ≡ role.Master → first ≤ x → x < first + 256 → (x - first) % 4 ≡ 0 → SlotAt z x
  slot-made x start first h is master low high even = (slot-at x start ((x - first) / 4) h.block master (omega arith) (omega arith)).0

  -- a block that has a byte lies within 32 bits
  pub holder-range : (x start : ℕ) (h : HoldsByte l x start) → start + size_of l.heads h.block.here ≤ 0xFFFF_FFFF
  holder-range x start h =
      let b = h.block in
      let high = range-one l b.before b.here b.after held.sound b.blocks in
      let place = b.place in
      omega arith
