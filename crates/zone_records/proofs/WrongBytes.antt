-- Bytes with a zone's structure, one of which is another one.
use Rattle.std.proofs.Common.{◌≡◌, ℕ, zero, suc, ◌+◌, ◌-◌, ◌*◌, ◌/◌, ◌%◌, ◌<◌, ◌≤◌, ◌⊎◌, List, [], ◌∷◌, ◌++◌, length, take, drop, inl, inr, refl, ap, sym, ◌∙◌, subst, arith, get_or-take}
use Rattle.std.specs.Prelude.{slice_index}
use Rattle.std.proofs.lemmas.Bool.{cases_lt}
use Rattle.mac_base.specs.declared.block.HeadKind.{HeadKind}
use Rattle.mac_base.specs.declared.block.HeadKind.TheVariants.{Bits24, Bits32}
use Rattle.mac_base.specs.FlagState.{flags_from}
use Rattle.mac_base.specs.HeadKind.{head_size, slot_count, zone_header}
use Rattle.byteorder.specs.Endian.{big_bytes, big_number}
use Rattle.raw_region.specs.Bytes.{part, written, length-written}
use Rattle.raw_region.proofs.Indexes.{index-part, index-written-apart}
use Rattle.raw_region.proofs.Laws.{part-written-apart}
use Rattle.raw_region.proofs.Pieces.{written-nothing}
use Rattle.block_bytes.specs.declared.header.Role.TheVariants as role
use Rattle.block_bytes.specs.Head.{head_bytes}
use Rattle.block_bytes.specs.Layout as raw
use Rattle.block_bytes.specs.Layout.{RawBlock, Layout, BlockAt, size_of, header_of, image_of}
use Rattle.block_bytes.specs.Structure.{EachMaster, HasHeaders}
use Rattle.block_bytes.proofs.Structures.{headers-rest}
use Rattle.zone_records.specs.declared.slot.Slot.{Slot}
use Rattle.zone_records.specs.declared.slot.Slot.TheVariants.{Free, Empty, Full}
use Rattle.zone_records.specs.declared.structure.Part.TheVariants.{ZoneHeader, BlockHeader, MasterPointer}
use Rattle.zone_records.specs.Faults.{IsWrong, Keeps, MayBe, topped}
use Rattle.zone_records.specs.Masters.{SlotAgrees, SlotsAgree, WordAgrees, slot_of, word_at}
use Rattle.zone_records.specs.Parts.{IsInPart}
use Rattle.zone_records.specs.Records.{ZoneRecords}
use Rattle.zone_records.specs.Structure.{HasStructure, IsIn, shown_slot}
use Rattle.zone_records.specs.Word.{slot_word, slot_in}
use Rattle.zone_records.proofs.FaultWords.{low-byte, own-right, own-small, top-agrees, topped-agrees}
use Rattle.zone_records.proofs.Held.{Held, heads-is, base-is}
use Rattle.zone_records.proofs.Looking.{of-block}
use Rattle.zone_records.proofs.MasterBlocks.{block-end, contents-long, contents-words, each-made, each-one}
use Rattle.zone_records.proofs.OwnBytes.{own-records}
use Rattle.zone_records.proofs.Ranked.{rank}
use Rattle.zone_records.proofs.Slots.{slot-at}
use Rattle.zone_records.proofs.Structures.{agree-at, in-image, structure-agrees, structure-head_is, structure-made}

-- ---- in general

-- the headers of blocks, one by one
pub headers-made : (l : Layout) (bytes : List ℕ) (at : ℕ) (bs : List RawBlock)
    → ((xs : List RawBlock) (b : RawBlock) (ys : List RawBlock) → bs ≡ xs ++ b ∷ ys → part bytes (at + raw.total_of l.heads xs) (head_size l.heads) ≡ head_bytes l.heads l.base (header_of l.heads b)) → HasHeaders l bytes at bs
headers-made l bytes at [] each = tt
headers-made l bytes at (b ∷ bs) each = (
  ap (λ n. part bytes n (head_size l.heads)) (let e : at ≡ at + 0 = omega arith in e) ∙ each [] b bs refl,
  headers-made l bytes (at + size_of l.heads b) bs (λ xs c ys is.
      ap (λ n. part bytes n (head_size l.heads)) (let e : at + size_of l.heads b + raw.total_of l.heads xs ≡ at + (size_of l.heads b + raw.total_of l.heads xs) = omega arith in e) ∙ each (b ∷ xs) c ys (ap (λ ds. b ∷ ds) is)),
)

header-one : (l : Layout) (bytes : List ℕ) (xs : List RawBlock) (b : RawBlock) (ys : List RawBlock) → l.blocks ≡ xs ++ b ∷ ys → HasHeaders l bytes zone_header l.blocks
    → part bytes (zone_header + raw.total_of l.heads xs) (head_size l.heads) ≡ head_bytes l.heads l.base (header_of l.heads b)
header-one l bytes xs b ys is all = (headers-rest l bytes zone_header xs (b ∷ ys) (subst (HasHeaders l bytes zone_header) is all)).0

-- two parts that are one have the same bytes
same-byte : (xs ys : List ℕ) (at n k : ℕ) → part xs at n ≡ part ys at n → at ≤ k → k < at + n → slice_index xs k ≡ slice_index ys k
same-byte xs ys at n k is low high = sym (index-part xs at n k low high) ∙ ap (λ zs. slice_index zs (k - at)) is ∙ index-part ys at n k low high

-- what a slot says with the flags of the same byte
pub shown-same : (heads : HeadKind) (xs ys : List ℕ) (at : ℕ) (s : Slot) → slice_index ys at ≡ slice_index xs at → shown_slot heads ys at s ≡ shown_slot heads xs at s
shown-same heads xs ys at (Free next) is = refl
shown-same heads xs ys at Empty is = refl
shown-same Bits24 xs ys at (Full flags contents) is = ap (λ b. Full (flags_from b) contents) is
shown-same Bits32 xs ys at (Full flags contents) is = refl

-- what four bytes and their first say of a slot
pub slot-kept : (heads : HeadKind) (xs ys : List ℕ) (at : ℕ) (s : Slot) → part ys at 4 ≡ part xs at 4 → slice_index ys at ≡ slice_index xs at → SlotAgrees heads xs at s → SlotAgrees heads ys at s
slot-kept heads xs ys at s four first agrees =
    record {
      said = ap (λ zs. slot_in heads (big_number 4 zs)) four ∙ agrees.said ∙ sym (shown-same heads xs ys at s first);
      right = four ∙ agrees.right ∙ ap (λ zs. big_bytes 4 (slot_word heads (slot_in heads (big_number 4 zs)))) (sym four);
    }

-- the part from a byte that is written on
written-first : (xs : List ℕ) (k b n : ℕ) → k < length xs → part (written xs k (b ∷ [])) k (suc n) ≡ b ∷ drop 1 (part xs k (suc n))
written-first [] k b n inside = absurd (omega arith)
written-first (x ∷ xs) zero b n inside = ap (λ zs. b ∷ take n zs) (written-nothing xs 0)
written-first (x ∷ xs) (suc k) b n inside = written-first xs k b n (omega arith)

written-index : (xs : List ℕ) (k b : ℕ) → k < length xs → slice_index (written xs k (b ∷ [])) k ≡ b
written-index [] k b inside = absurd (omega arith)
written-index (x ∷ xs) zero b inside = refl
written-index (x ∷ xs) (suc k) b inside = written-index xs k b (omega arith)

-- ---- a byte of a zone

module _ (l : Layout) (z : ZoneRecords) (held : Held l z) where
  -- the zone's own bytes have its structure
  own-structure : HasStructure z (image_of l)
  own-structure = let is = in-image l z held in subst (λ y. IsIn y (image_of l)) (sym (own-records z (image_of l) is)) is

  -- a block ends within the zone's bytes
  within-bytes : (start : ℕ) (b : BlockAt l start) → start - l.base + size_of l.heads b.here ≤ length (image_of l)
  within-bytes start b = (block-end l held.sound start b).1

  -- bytes with the structure are alike in all parts but flags
  head-same : (others : List ℕ) → HasStructure z others → (k : ℕ) → k < zone_header → slice_index others k ≡ slice_index (image_of l) k
  head-same others has k low =
      sym (get_or-take zone_header others k 0 low) ∙ ap (λ xs. slice_index xs k) ((structure-head_is l others z held has).head ∙ sym (structure-head_is l (image_of l) z held own-structure).head)
      ∙ get_or-take zone_header (image_of l) k 0 low

  header-same : (others : List ℕ) → HasStructure z others → (start : ℕ) (b : BlockAt l start) (k : ℕ) → start ≤ l.base + k → l.base + k < start + head_size l.heads → slice_index others k ≡ slice_index (image_of l) k
  header-same others has start b k low high =
      let place = b.place in
      let own = header-one l (image_of l) b.before b.here b.after b.blocks (structure-agrees l (image_of l) z held own-structure).headers in
      let theirs = header-one l others b.before b.here b.after b.blocks (structure-agrees l others z held has).headers in
      same-byte others (image_of l) (zone_header + raw.total_of l.heads b.before) (head_size l.heads) k (theirs ∙ sym own) (omega arith) (omega arith)

  module _ (k byte : ℕ) (other : slice_index (image_of l) k ≡ byte → ⊥) where
    pub zone-wrong : k < zone_header → IsInPart z k ZoneHeader × IsWrong z k byte
    zone-wrong low = (low, λ others has is. other (sym (head-same others has k low) ∙ is))

    pub header-wrong : (start : ℕ) (b : BlockAt l start) → start ≤ l.base + k → l.base + k < start + head_size l.heads → IsInPart z k BlockHeader × IsWrong z k byte
    header-wrong start b low high =
        let base = base-is l z held in
        let heads = ap head_size (heads-is l z held) in
        (record { start = start; block = of-block l z held start b; low = omega arith; high = omega arith }, λ others has is. other (sym (header-same others has start b k low high) ∙ is))

    -- a byte of a master pointer that can't be there
    module _ (start : ℕ) (b : BlockAt l start) (master : b.here.role ≡ role.Master) (j : ℕ) (place : l.base + k ≡ start + head_size l.heads + j) (few : j < 256) where
      abbrev index : ℕ
      index = j / 4

      abbrev w : ℕ
      w = word_at b.here.contents (4 * index)

      abbrev there : ℕ
      there = start - l.base + head_size l.heads + 4 * index

      w-right : slot_word l.heads (slot_in l.heads w) ≡ w
      w-right = own-right l.heads slot_count b.here.contents (contents-words l held.sound start b master) index (omega arith)

      w-small : w < 0x1_0000_0000
      w-small = own-small l.heads slot_count b.here.contents (contents-words l held.sound start b master) index (omega arith)

      slot-agree : (others : List ℕ) → HasStructure z others → SlotAgrees l.heads others there (slot_in l.heads w)
      slot-agree others has = agree-at l others (structure-agrees l others z held has) start b master index (omega arith)

      below-base : there + j % 4 ≡ k
      below-base = let at = b.place in omega arith

      pub pointer-wrong : (MayBe l.heads b.here.contents j byte → ⊥) → IsInPart z k MasterPointer × IsWrong z k byte
      pointer-wrong not =
          let base = base-is l z held in
          let heads = ap head_size (heads-is l z held) in
          let at = b.place in
          let x = start + head_size l.heads + 4 * index in (
            record { number = x; slot = (slot-at l z held x start index b master (omega arith) refl).0; low = omega arith; high = omega arith },
            λ others has is. elim (cases_lt 0 (j % 4)) [
              | inl some ↦
                  let low = low-byte l.heads others there w w-small w-right (slot-agree others has) (j % 4) (omega arith) (omega arith) in
                  let own = low-byte l.heads (image_of l) there w w-small w-right (slot-agree (image_of l) own-structure) (j % 4) (omega arith) (omega arith) in
                  other (sym (ap (slice_index (image_of l)) below-base) ∙ own ∙ sym low ∙ ap (slice_index others) below-base ∙ is)
              | inr none ↦
                  let first : j % 4 ≡ 0 = omega arith in
                  let same : 4 * index ≡ j = omega arith in
                  let here : there ≡ k = (let e = below-base in omega arith) in
                  not (
                    first,
                    subst (λ n. WordAgrees l.heads (word_at b.here.contents n) (topped byte (word_at b.here.contents n))) same
                        (top-agrees l.heads others there w w-small w-right (slot-agree others has) byte (ap (slice_index others) here ∙ is)),
                  )
            ],
          )

    -- ---- a byte that may be there

    -- the headers stay where it is in none, and master pointers where they agree again
    keeps-from : zone_header ≤ k → (right : List ℕ) → HasStructure z right
        → ((xs : List RawBlock) (b : RawBlock) (ys : List RawBlock) → l.blocks ≡ xs ++ b ∷ ys → let o = zone_header + raw.total_of l.heads xs in
        ((k < o) ⊎ (o + head_size l.heads ≤ k)) × (b.role ≡ role.Master → SlotsAgree l.heads right slot_count (o + head_size l.heads) b.contents → SlotsAgree l.heads (written right k (byte ∷ [])) slot_count (o + head_size l.heads) b.contents))
        → HasStructure z (written right k (byte ∷ []))
    keeps-from low right has each =
        let head = structure-head_is l right z held has in
        let agree = structure-agrees l right z held has in
        let new = written right k (byte ∷ []) in
        structure-made l new z held
        (record { all = length-written right k (byte ∷ []) ∙ head.all; head = part-written-apart right k (byte ∷ []) 0 zone_header (inl (omega arith)) ∙ head.head })
        (record {
          headers = headers-made l new zone_header l.blocks (λ xs b ys is.
              part-written-apart right k (byte ∷ []) (zone_header + raw.total_of l.heads xs) (head_size l.heads) (elim (each xs b ys is).0 [ inl below ↦ inr (omega arith) | inr above ↦ inl above ])
              ∙ header-one l right xs b ys is agree.headers);
          masters = each-made (SlotsAgree l.heads new slot_count) l.heads zone_header l.blocks (λ xs b ys is master.
              (each xs b ys is).1 master (each-one (SlotsAgree l.heads right slot_count) l.heads zone_header xs b ys (subst (EachMaster (SlotsAgree l.heads right slot_count) l.heads zone_header) is agree.masters) master));
        })

    -- master pointers apart from it stay
    slots-apart : (right : List ℕ) (a : ℕ) (contents : List ℕ) → (k < a) ⊎ (a + 256 ≤ k) → SlotsAgree l.heads right slot_count a contents → SlotsAgree l.heads (written right k (byte ∷ [])) slot_count a contents
    slots-apart right a contents off agree i few =
        slot-kept l.heads right (written right k (byte ∷ [])) (a + 4 * i) (slot_of l.heads contents i)
        (part-written-apart right k (byte ∷ []) (a + 4 * i) 4 (elim off [ inl below ↦ inr (omega arith) | inr above ↦ inl (omega arith) ]))
        (index-written-apart right k (byte ∷ []) (a + 4 * i) (elim off [ inl below ↦ inr (omega arith) | inr above ↦ inl (omega arith) ]))
        (agree i few)

    module _ (start : ℕ) (b : BlockAt l start) (low : start + head_size l.heads ≤ l.base + k) (high : l.base + k < start + size_of l.heads b.here) where
      abbrev first : ℕ
      first = zone_header + raw.total_of l.heads b.before + head_size l.heads

      -- where it is in a block, after the header, the other blocks stay
      block-keeps : ((right : List ℕ) → HasStructure z right → b.here.role ≡ role.Master → SlotsAgree l.heads right slot_count first b.here.contents → SlotsAgree l.heads (written right k (byte ∷ [])) slot_count first b.here.contents) → Keeps z k byte
      block-keeps own right has =
          let place = b.place in
          keeps-from (omega arith) right has (λ xs c ys is.
          let x = raw.address_after l xs in
          let at : BlockAt l x = record { before = xs; here = c; after = ys; blocks = is; place = refl } in
          let long : c.role ≡ role.Master → length c.contents ≡ 256 = contents-long l held.sound x at in
          let a = zone_header + raw.total_of l.heads xs + head_size l.heads in
          elim (rank l start x b at) [
            | inl below ↦ (inl (omega arith), λ master. slots-apart right a c.contents (inl (omega arith)))
            | inr (inl above) ↦ (inr (omega arith), λ master. slots-apart right a c.contents (inr (let all = long master in omega arith)))
            | inr (inr one) ↦
                let there = one.0 in
                let same : first ≡ a = omega arith in (
                  inr (omega arith),
                  λ master agree.
                      let is_own = one.1 in
                      subst (λ n. SlotsAgree l.heads (written right k (byte ∷ [])) slot_count n c.contents) same
                      (subst (λ (d : RawBlock). SlotsAgree l.heads (written right k (byte ∷ [])) slot_count first d.contents) is_own
                      (own right has (ap (λ (d : RawBlock). d.role) is_own ∙ master)
                      (subst (λ (d : RawBlock). SlotsAgree l.heads right slot_count first d.contents) (sym is_own) (subst (λ n. SlotsAgree l.heads right slot_count n c.contents) (sym same) agree)))),
                )
          ])

      pub plain-keeps : (b.here.role ≡ role.Master → ⊥) → Keeps z k byte
      plain-keeps not = block-keeps (λ right has master. absurd (not master))

      pub slack-keeps : start + head_size l.heads + 256 ≤ l.base + k → Keeps z k byte
      slack-keeps after = let place = b.place in block-keeps (λ right has master agree. slots-apart right first b.here.contents (inr (omega arith)) agree)

      pub flags-keeps : byte < 256 → b.here.role ≡ role.Master → (j : ℕ) → l.base + k ≡ start + head_size l.heads + j → j < 256 → MayBe l.heads b.here.contents j byte → Keeps z k byte
      flags-keeps small master j there few may =
          let place = b.place in
          let index = j / 4 in
          let even = may.0 in
          let same : j ≡ 4 * index = omega arith in
          let here : first + 4 * index ≡ k = omega arith in
          let w = word_at b.here.contents (4 * index) in
          let agrees : WordAgrees l.heads w (topped byte w) = subst (λ n. WordAgrees l.heads (word_at b.here.contents n) (topped byte (word_at b.here.contents n))) same may.1 in
          let small_word = own-small l.heads slot_count b.here.contents (contents-words l held.sound start b master) index (omega arith) in
          let right_word = own-right l.heads slot_count b.here.contents (contents-words l held.sound start b master) index (omega arith) in
          block-keeps (λ right has is agree i below.
          let all = (structure-head_is l right z held has).all in
          let inside = within-bytes start b in
          elim (cases_lt i index) [
            | inl less ↦ slot-kept l.heads right (written right k (byte ∷ [])) (first + 4 * i) (slot_of l.heads b.here.contents i)
                (part-written-apart right k (byte ∷ []) (first + 4 * i) 4 (inl (omega arith))) (index-written-apart right k (byte ∷ []) (first + 4 * i) (inl (omega arith))) (agree i below)
            | inr more ↦ elim (cases_lt index i) [
              | inl greater ↦ slot-kept l.heads right (written right k (byte ∷ [])) (first + 4 * i) (slot_of l.heads b.here.contents i)
                  (part-written-apart right k (byte ∷ []) (first + 4 * i) 4 (inr (omega arith))) (index-written-apart right k (byte ∷ []) (first + 4 * i) (inr (omega arith))) (agree i below)
              | inr equal ↦
                  let one : index ≡ i = omega arith in
                  subst (λ n. SlotAgrees l.heads (written right k (byte ∷ [])) (first + 4 * n) (slot_of l.heads b.here.contents n)) one
                  (subst (λ n. SlotAgrees l.heads (written right k (byte ∷ [])) n (slot_in l.heads w)) (sym here)
                  (topped-agrees l.heads right k w small_word right_word (subst (λ n. SlotAgrees l.heads right n (slot_in l.heads w)) here (agree index (omega arith)))
                  (written right k (byte ∷ [])) byte small (written-first right k byte 3 (omega arith)) (written-index right k byte (omega arith)) agrees))
            ]
          ])
