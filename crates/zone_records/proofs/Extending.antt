-- How growth to the limit ends.
use Rattle.std.proofs.Common.{◌≡◌, ℕ, ◌+◌, ◌-◌, ◌%◌, ◌<◌, ◌≤◌, true, false, cond, eqb, List, [], ◌∷◌, ◌++◌, length, drop, refl, ap, sym, ◌∙◌, subst, arith, length-drop}
use Rattle.std.specs.List.{All, list_all}
use Rattle.std.proofs.lemmas.Bool.Decides.{nat_tests}
use Rattle.std.proofs.lemmas.List.Elements.{All-append, All-nil}
use Rattle.std.proofs.lemmas.List.Folds.{list_all-append}
use Rattle.std.proofs.lemmas.Bool.{and_from}
use Rattle.mac_base.specs.declared.block.HeadKind.{HeadKind}
use Rattle.mac_base.specs.declared.block.HeadKind.TheVariants.{Bits24, Bits32}
use Rattle.mac_base.specs.HeadKind.{head_size, zone_header}
use Rattle.mac_base.specs.ZoneSizes.{ZoneSizes, ArePossible}
use Rattle.block_bytes.specs.Layout as raw
use Rattle.block_bytes.specs.Layout.{RawBlock, Layout, free_raw_block, free_block_of, size_of}
use Rattle.zone_records.specs.Changes.{free_record, extended}
use Rattle.zone_records.specs.Reading.{HasWords, is_sound, records_in}
use Rattle.zone_records.specs.Records.{Free, block_record, ZoneRecords, total_of, with_blocks}
use Rattle.zone_records.proofs.Apart.{read, total-read, total-append, read-append}
use Rattle.zone_records.proofs.Blocks.{sized, sound-free}
use Rattle.zone_records.proofs.Held.{Held, words-one, words-free}

-- how many bytes a zone may still have: none, or enough for a block
record CanGrow (n : ℕ) : Type 0 where
  even : n % 4 ≡ 0
  some : 0 < n → 16 ≤ n

-- enough bytes have room for a header
head-few : (heads : HeadKind) → head_size heads ≤ 12
head-few Bits24 = omega arith
head-few Bits32 = omega arith

-- and make a block
grown-sized : (heads : HeadKind) (n : ℕ) → n % 4 ≡ 0 → 16 ≤ n → sized heads n ≡ true
grown-sized Bits24 n even large = grind (arith, nat_tests)
grown-sized Bits32 n even large = grind (arith, nat_tests)

-- a free block of some bytes is one
free_record-some : (n : ℕ) → 0 < n → free_record n ≡ block_record Free n ∷ []
free_record-some n some = ap (λ b. cond b [] (block_record Free n ∷ [])) (not_zero n some)
  where
    not_zero : (n : ℕ) → 0 < n → eqb n 0 ≡ false
    not_zero n some = grind (arith, nat_tests)

module _ (heads : HeadKind) (base : ℕ) where
  -- the block that some bytes are has all of them
  added-size : (xs : List ℕ) → 16 ≤ length xs → size_of heads (free_raw_block (drop (head_size heads) xs)) ≡ length xs
  added-size xs large = let rest = length-drop (head_size heads) xs in let few = head-few heads in omega arith

  added-total : (xs : List ℕ) → CanGrow (length xs) → raw.total_of heads (free_block_of heads xs) ≡ length xs
  added-total [] can = refl
  added-total (x ∷ xs) can = let size = added-size (x ∷ xs) (can.some (omega arith)) in omega arith

  -- it is read as a free one
  added-read : (xs : List ℕ) → CanGrow (length xs) → read heads base (free_block_of heads xs) ≡ free_record (length xs)
  added-read [] can = refl
  added-read (x ∷ xs) can = ap (λ n. block_record Free n ∷ []) (added-size (x ∷ xs) (can.some (omega arith))) ∙ sym (free_record-some (length (x ∷ xs)) (omega arith))

  -- and is sound
  added-sound : (xs : List ℕ) → CanGrow (length xs) → list_all (is_sound heads base) (free_block_of heads xs) ≡ true
  added-sound [] can = refl
  added-sound (x ∷ xs) can =
      let rest = length-drop (head_size heads) (x ∷ xs) in
      let few = head-few heads in
      let large = can.some (omega arith) in
      and_from _ _ (sound-free heads base (drop (head_size heads) (x ∷ xs)) (length (x ∷ xs)) (omega arith) (grown-sized heads (length (x ∷ xs)) can.even large)) refl

  added-words : (xs : List ℕ) → All (HasWords heads) (free_block_of heads xs)
  added-words [] = All-nil (HasWords heads)
  added-words (x ∷ xs) = let b = free_raw_block (drop (head_size heads) (x ∷ xs)) in words-one heads b (words-free heads b refl)

module _ (l : Layout) (z : ZoneRecords) (held : Held l z) (s : ZoneSizes) (possible : ArePossible s) (size : s.base + s.size ≡ raw.address_after l l.blocks)
    (limit : s.base + s.limit ≡ raw.address_after l l.blocks + length l.spare) where
  can : CanGrow (length l.spare)
  can = let even = possible.even_size in let even' = possible.even_limit in let within = possible.within in
      record { even = omega arith; some = λ some. let growth = possible.growth (omega arith) in omega arith }

  -- the blocks then, and what they show
  total : raw.total_of l.heads (raw.extended l).blocks ≡ raw.total_of l.heads l.blocks + length l.spare
  total = total-append l.heads l.blocks (free_block_of l.heads l.spare) ∙ ap (λ n. raw.total_of l.heads l.blocks + n) (added-total l.heads l.base l.spare can)

  blocks : read l.heads l.base (raw.extended l).blocks ≡ read l.heads l.base l.blocks ++ free_record (length l.spare)
  blocks = read-append l.heads l.base l.blocks (free_block_of l.heads l.spare) ∙ ap (λ rs. read l.heads l.base l.blocks ++ rs) (added-read l.heads l.base l.spare can)

  left : length l.spare ≡ z.shape.limit - (zone_header + total_of z.blocks)
  left =
      let all = sym (total-read l.heads l.base l.blocks) ∙ ap (λ (z : ZoneRecords). total_of z.blocks) held.shows in
      let whole = ap (λ (z : ZoneRecords). z.shape.limit) held.shows in
      omega arith

  shows : records_in (raw.extended l) ≡ extended z
  shows =
      let sum = total in
      let kept : zone_header + raw.total_of l.heads (raw.extended l).blocks + 0 ≡ zone_header + raw.total_of l.heads l.blocks + length l.spare = omega arith in
      (λ i. record { memory = l.memory; shape = record { heads = l.heads; base = l.base; limit = kept i }; front = l.front; blocks = blocks i })
      ∙ ap (λ (z : ZoneRecords). with_blocks (z.blocks ++ free_record (length l.spare)) z) held.shows
      ∙ ap (λ n. with_blocks (z.blocks ++ free_record n) z) left

  -- the zone is grown to its limit
  pub extend-ends : (m : Layout) → m ≡ raw.extended l → Held m (extended z)
  extend-ends m is =
      let sum = total in
      let high = held.sound.high in
      let sound = held.sound in
      subst (λ m. Held m (extended z)) (sym is) (record {
        shows = shows;
        sound = record {
          blocks = list_all-append (is_sound l.heads l.base) l.blocks (free_block_of l.heads l.spare) ∙ and_from _ _ sound.blocks (added-sound l.heads l.base l.spare can);
          words = All-append (HasWords l.heads) l.blocks (free_block_of l.heads l.spare) sound.words (added-words l.heads l.base l.spare);
          even = sound.even;
          high = omega arith;
        };
      })
