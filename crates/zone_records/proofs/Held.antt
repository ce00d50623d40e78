-- What is known of the blocks of bytes of a zone while it is changed, and when they are those of the changed one.
use Rattle.std.proofs.Common.{◌≡◌, ◌+◌, ◌≤◌, true, List, [], ◌∷◌, ◌++◌, length, refl, ap, sym, ◌∙◌, arith}
use Rattle.std.specs.List.{All, list_all}
use Rattle.std.proofs.lemmas.List.Elements.{All-append, All-cons, All-head, All-nil, All-same, All-tail}
use Rattle.std.proofs.lemmas.List.Folds.{list_all-append}
use Rattle.std.proofs.lemmas.Bool.{and_parts, and_from}
use Rattle.mac_base.specs.HeadKind.{zone_header, address_end}
use Rattle.mac_base.specs.declared.block.HeadKind.{HeadKind}
use Rattle.mac_base.proofs.Reach.{end-small}
use Rattle.block_bytes.specs.declared.header.Role.TheVariants as role
use Rattle.block_bytes.specs.Layout as raw
use Rattle.block_bytes.specs.Layout.{RawBlock, Layout, size_of, with_blocks}
use Rattle.zone_records.specs.declared.records.Records.TheInside.{Inside}
use Rattle.zone_records.specs.Records as records
use Rattle.zone_records.specs.Records.{BlockRecord, ZoneRecords, total_of, address_after}
use Rattle.zone_records.specs.Reading.{records_in, is_sound, HasWords, AreSound, IsSound}
use Rattle.zone_records.proofs.Apart.{read, total-read, total-append, read-append, One, Two, one-of, two-of}

-- blocks of bytes are those of a zone, and sound
pub record Held (l : Layout) (z : ZoneRecords) : Type 0 where
  pub shows : records_in l ≡ z
  pub sound : AreSound l

-- those of the fields
pub held-now : {i : Inside} {z : ZoneRecords} → IsSound i → records_in i.blocks ≡ z → Held i.blocks z
held-now inside shows = record { shows = shows; sound = inside.sound }

-- those of the zone that they are
pub held-read : (l : Layout) → AreSound l → Held l (records_in l)
held-read l sound = record { shows = refl; sound = sound }

-- so they are fields
pub fields : (l : Layout) (z : ZoneRecords) → Held l z → IsSound (record { blocks = l })
fields l z held = record { sound = held.sound }

-- the parts of the blocks are sound where all are
pub sound-two : (l : Layout) (xs ys : List RawBlock) → AreSound l → l.blocks ≡ xs ++ ys → (list_all (is_sound l.heads l.base) xs ≡ true) × (list_all (is_sound l.heads l.base) ys ≡ true)
sound-two l xs ys sound is = and_parts _ _ (sym (list_all-append (is_sound l.heads l.base) xs ys) ∙ sym (ap (list_all (is_sound l.heads l.base)) is) ∙ sound.blocks)

-- so is each block
pub sound-one : (l : Layout) (xs : List RawBlock) (b : RawBlock) (ys : List RawBlock) → AreSound l → l.blocks ≡ xs ++ b ∷ ys → is_sound l.heads l.base b ≡ true
sound-one l xs b ys sound is = (and_parts _ _ (sound-two l xs (b ∷ ys) sound is).1).0

-- what holds of all blocks holds of the first, and of those after
pub words-first : (heads : HeadKind) (xs ys : List RawBlock) → All (HasWords heads) (xs ++ ys) → All (HasWords heads) xs
words-first heads [] ys all = All-nil (HasWords heads)
words-first heads (x ∷ xs) ys all = All-cons (HasWords heads) x xs (All-head (HasWords heads) x (xs ++ ys) all) (words-first heads xs ys (All-tail (HasWords heads) x (xs ++ ys) all))

pub words-rest : (heads : HeadKind) (xs ys : List RawBlock) → All (HasWords heads) (xs ++ ys) → All (HasWords heads) ys
words-rest heads [] ys all = all
words-rest heads (x ∷ xs) ys all = words-rest heads xs ys (All-tail (HasWords heads) x (xs ++ ys) all)

-- one block, and two
pub words-one : (heads : HeadKind) (b : RawBlock) → HasWords heads b → All (HasWords heads) (b ∷ [])
words-one heads b has = All-cons (HasWords heads) b [] has (All-nil (HasWords heads))

pub words-two : (heads : HeadKind) (a b : RawBlock) → HasWords heads a → HasWords heads b → All (HasWords heads) (a ∷ b ∷ [])
words-two heads a b first second = All-cons (HasWords heads) a (b ∷ []) first (words-one heads b second)

-- a free block has no slots
pub words-free : (heads : HeadKind) (b : RawBlock) → b.role ≡ role.Free → HasWords heads b
words-free heads b free is = absurd (cc (free, is))

-- each block has its words
pub words-at : (l : Layout) (xs : List RawBlock) (b : RawBlock) (ys : List RawBlock) → AreSound l → l.blocks ≡ xs ++ b ∷ ys → HasWords l.heads b
words-at l xs b ys sound is = All-head (HasWords l.heads) b ys (words-rest l.heads xs (b ∷ ys) (All-same (HasWords l.heads) (xs ++ b ∷ ys) l.blocks (sym is) sound.words))

-- and two neighbours
pub sound-other : (l : Layout) (xs : List RawBlock) (a b : RawBlock) (ys : List RawBlock) → AreSound l → l.blocks ≡ xs ++ a ∷ b ∷ ys → is_sound l.heads l.base b ≡ true
sound-other l xs a b ys sound is = (and_parts _ _ (and_parts _ _ (sound-two l xs (a ∷ b ∷ ys) sound is).1).1).0

-- where a block ends at the highest
pub end-one : (l : Layout) (xs : List RawBlock) (b : RawBlock) (ys : List RawBlock) → AreSound l → l.blocks ≡ xs ++ b ∷ ys → raw.address_after l xs + size_of l.heads b ≤ address_end l.heads
end-one l xs b ys sound is =
    let all = ap (raw.total_of l.heads) is ∙ total-append l.heads xs (b ∷ ys) in
    let high = sound.high in
    omega arith

-- that has 32 bits
pub range-one : (l : Layout) (xs : List RawBlock) (b : RawBlock) (ys : List RawBlock) → AreSound l → l.blocks ≡ xs ++ b ∷ ys → raw.address_after l xs + size_of l.heads b ≤ 0xFFFF_FFFF
range-one l xs b ys sound is = let end = end-one l xs b ys sound is in let small = end-small l.heads in omega arith

module _ (l : Layout) (z : ZoneRecords) (held : Held l z) where
  -- how blocks are headed, and where the zone begins
  pub heads-is : l.heads ≡ z.shape.heads
  heads-is = ap (λ (z : ZoneRecords). z.shape.heads) held.shows

  pub base-is : l.base ≡ z.shape.base
  base-is = ap (λ (z : ZoneRecords). z.shape.base) held.shows

  -- the address after some blocks
  pub address-is : (xs : List RawBlock) (before : List BlockRecord) → read l.heads l.base xs ≡ before → address_after z.shape before ≡ raw.address_after l xs
  address-is xs before is =
      let base = base-is in
      let total = sym (ap total_of is) ∙ total-read l.heads l.base xs in
      omega arith

  -- one block by its place in the list
  pub one : (before : List BlockRecord) (here : BlockRecord) (after : List BlockRecord) → z.blocks ≡ before ++ here ∷ after → One l before here after
  one before here after is = one-of l before here after (ap (λ (z : ZoneRecords). z.blocks) held.shows ∙ is)

  -- two neighbours
  pub two : (before : List BlockRecord) (here next : BlockRecord) (after : List BlockRecord) → z.blocks ≡ before ++ here ∷ next ∷ after → Two l before here next after
  two before here next after is = two-of l before here next after (ap (λ (z : ZoneRecords). z.blocks) held.shows ∙ is)

  -- other blocks of the same size in all in the place of some, read as these
  pub changed : (first olds news rest : List RawBlock) (before recs after : List BlockRecord) → l.blocks ≡ first ++ (olds ++ rest) → read l.heads l.base first ≡ before → read l.heads l.base rest ≡ after
      → read l.heads l.base news ≡ recs → raw.total_of l.heads news ≡ raw.total_of l.heads olds → list_all (is_sound l.heads l.base) news ≡ true → All (HasWords l.heads) news
      → Held (with_blocks (first ++ (news ++ rest)) l) (records.with_blocks (before ++ (recs ++ after)) z)
  changed first olds news rest before recs after is lower upper same total sound words =
      let all = sound-two l first (olds ++ rest) held.sound is in
      let high = and_parts _ _ (sym (list_all-append (is_sound l.heads l.base) olds rest) ∙ all.1) in
      let have = All-same (HasWords l.heads) (first ++ (olds ++ rest)) l.blocks (sym is) held.sound.words in
      let old-total = ap (raw.total_of l.heads) is ∙ total-append l.heads first (olds ++ rest) in
      let old-rest = total-append l.heads olds rest in
      let new-total = total-append l.heads first (news ++ rest) in
      let new-rest = total-append l.heads news rest in
      let kept : raw.total_of l.heads (first ++ (news ++ rest)) ≡ raw.total_of l.heads l.blocks = omega arith in
      let blocks : read l.heads l.base (first ++ (news ++ rest)) ≡ before ++ (recs ++ after) =
      read-append l.heads l.base first (news ++ rest) ∙ ap (λ rs. read l.heads l.base first ++ rs) (read-append l.heads l.base news rest) ∙ (λ i. lower i ++ (same i ++ upper i)) in
      let top = held.sound.high in
      record {
        shows = (λ i. record {
          memory = l.memory;
          shape = record { heads = l.heads; base = l.base; limit = zone_header + kept i + length l.spare };
          front = l.front;
          blocks = blocks i;
        }) ∙ ap (records.with_blocks (before ++ (recs ++ after))) held.shows;
        sound = record {
          blocks = list_all-append (is_sound l.heads l.base) first (news ++ rest) ∙ and_from _ _ all.0 (list_all-append (is_sound l.heads l.base) news rest ∙ and_from _ _ sound high.1);
          words = All-append (HasWords l.heads) first (news ++ rest) (words-first l.heads first (olds ++ rest) have)
              (All-append (HasWords l.heads) news rest words (words-rest l.heads olds rest (words-rest l.heads first (olds ++ rest) have)));
          even = held.sound.even;
          high = omega arith;
        };
      }
