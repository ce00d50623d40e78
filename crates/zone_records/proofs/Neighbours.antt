-- A block and a free one after it, as blocks of bytes.
use Rattle.std.proofs.Common.{◌≡◌, ℕ, ◌+◌, ◌-◌, ◌≤◌, true, List, [], ◌∷◌, ◌++◌, length, refl, ap, sym, ◌∙◌, arith, append_assoc}
use Rattle.std.proofs.lemmas.Bool.{and_from}
use Rattle.mac_base.specs.declared.block.HeadKind.{HeadKind}
use Rattle.mac_base.specs.HeadKind.{head_size}
use Rattle.block_bytes.specs.declared.header.Header.{Header}
use Rattle.block_bytes.specs.Layout as raw
use Rattle.block_bytes.specs.Layout.{RawBlock, Layout, BlockAt, CanMerge, raw_block, size_of, header_of, joint_body}
use Rattle.block_bytes.proofs.Here.{size-joint}
use Rattle.zone_records.specs.Records as records
use Rattle.zone_records.specs.Records.{Content, Free, BlockRecord, block_record, ZoneRecords}
use Rattle.zone_records.specs.Places.{FreePair, CanGrow}
use Rattle.zone_records.specs.Reading.{is_sound}
use Rattle.zone_records.proofs.Apart.{Two, total-append}
use Rattle.zone_records.proofs.Held.{Held, heads-is, address-is, two, sound-one, sound-other, range-one}
use Rattle.zone_records.proofs.Looking.{sound-parts}
use Rattle.zone_records.proofs.Blocks.{sized, sized-sum, sound-possible}

-- the sizes of a sound block
pub sound-sized : (heads : HeadKind) (base : ℕ) (b : RawBlock) → is_sound heads base b ≡ true → sized heads (size_of heads b) ≡ true
sound-sized heads base b sound = let s = sound-parts heads base b sound in and_from _ _ s.even s.large

-- a block that isn't lent, and a free one after it
pub record Neighbours (z : ZoneRecords) (at : ℕ) : Type 0 where
  pub before : List BlockRecord
  pub content : Content
  pub first : ℕ
  pub second : ℕ
  pub after : List BlockRecord
  pub blocks : z.blocks ≡ before ++ block_record content first ∷ block_record Free second ∷ after
  pub place : at ≡ records.address_after z.shape before

-- such are two free ones
abbrev pub free_pair : {z : ZoneRecords} {at : ℕ} → FreePair z at → Neighbours z at
free_pair pair = record { before = pair.before; content = Free; first = pair.first; second = pair.second; after = pair.after; blocks = pair.blocks; place = pair.place }

-- and one that can grow, with the free one
abbrev pub grow_pair : {z : ZoneRecords} {at size n : ℕ} → CanGrow z at size n → Neighbours z at
grow_pair can = record { before = can.before; content = can.content; first = can.first; second = can.second; after = can.after; blocks = can.blocks; place = can.place }

module _ (l : Layout) (z : ZoneRecords) (held : Held l z) (at : ℕ) (p : Neighbours z at) where
  abbrev pub t : Two l p.before (block_record p.content p.first) (block_record Free p.second) p.after
  t = two l z held p.before (block_record p.content p.first) (block_record Free p.second) p.after p.blocks

  pub there : at ≡ raw.address_after l t.first
  there = p.place ∙ address-is l z held t.first p.before t.lower

  pub sizes : (size_of l.heads t.block ≡ p.first) × (size_of l.heads t.other ≡ p.second)
  sizes = (ap (λ (r : BlockRecord). r.size) t.same, ap (λ (r : BlockRecord). r.size) t.same_other)

  -- the first
  abbrev pub first_at : BlockAt l at
  first_at = record { before = t.first; here = t.block; after = t.other ∷ t.rest; blocks = t.blocks; place = there }

  pub first-size : (h : Header) → ((b : BlockAt l at) → h ≡ header_of l.heads b.here) → h.size ≡ p.first
  first-size h says = ap (λ (h : Header). h.size) (says first_at) ∙ sizes.0

  -- the second
  pub second_blocks : l.blocks ≡ (t.first ++ t.block ∷ []) ++ t.other ∷ t.rest
  second_blocks = t.blocks ∙ sym (append_assoc t.first (t.block ∷ []) (t.other ∷ t.rest))

  pub second_place : (next : ℕ) → next ≡ at + p.first → next ≡ raw.address_after l (t.first ++ t.block ∷ [])
  second_place next is = let place = there in let size = sizes.0 in let sum = total-append l.heads t.first (t.block ∷ []) in omega arith

  abbrev pub second_at : (next : ℕ) → next ≡ at + p.first → BlockAt l next
  second_at next is = record { before = t.first ++ t.block ∷ []; here = t.other; after = t.rest; blocks = second_blocks; place = second_place next is }

  pub second-size : (next : ℕ) → next ≡ at + p.first → (h : Header) → ((b : BlockAt l next) → h ≡ header_of l.heads b.here) → h.size ≡ p.second
  second-size next is h says = ap (λ (h : Header). h.size) (says (second_at next is)) ∙ sizes.1

  -- both end within 32 bits
  pub both-range : at + p.first + p.second ≤ 0xFFFF_FFFF
  both-range =
      let high = range-one l (t.first ++ t.block ∷ []) t.other t.rest held.sound second_blocks in let place = second_place (at + p.first) refl in
      let size = sizes.1 in omega arith

  -- they are larger than a header
  pub both-head : head_size z.shape.heads ≤ p.first + p.second
  both-head = let head = ap head_size (heads-is l z held) in let size = sizes.0 in omega arith

  -- they are sound, and together as large as one
  pub both-sound : (is_sound l.heads l.base t.block ≡ true) × (is_sound l.heads l.base t.other ≡ true)
  both-sound = (sound-one l t.first t.block (t.other ∷ t.rest) held.sound t.blocks, sound-other l t.first t.block t.other t.rest held.sound t.blocks)

  pub both-sized : sized l.heads (p.first + p.second) ≡ true
  both-sized = (λ i. sized l.heads (sym sizes.0 i + sym sizes.1 i))
      ∙ sized-sum l.heads (size_of l.heads t.block) (size_of l.heads t.other) (sound-sized l.heads l.base t.block both-sound.0) (sound-sized l.heads l.base t.other both-sound.1)

  -- all bytes after the first header
  abbrev pub joint : List ℕ
  joint = joint_body l t.block t.other

  pub joint-long : head_size l.heads + length joint ≡ p.first + p.second
  joint-long = let all = size-joint l t.block t.other in let first = sizes.0 in let second = sizes.1 in omega arith

  module _ (n : ℕ) (is : n ≡ p.first + p.second - head_size l.heads) where
    pub joint-all : length joint ≡ n
    joint-all = let long = joint-long in omega arith

    -- they can be one where it is sound
    abbrev pub can_merge : is_sound l.heads l.base (raw_block t.block.role n joint) ≡ true → CanMerge l at n
    can_merge sound = record {
      pair = record {
        before = t.first;
        here = t.block;
        next = t.other;
        after = t.rest;
        blocks = t.blocks;
        place = there;
        unlent_here = ap (λ (r : BlockRecord). r.lent) t.same;
        unlent_next = ap (λ (r : BlockRecord). r.lent) t.same_other;
      };
      within = (let count = joint-all in omega arith);
      possible = sound-possible l.heads l.base (raw_block t.block.role n joint) sound;
    }
