-- The last free block before an address, by the index.
use Rattle.std.proofs.Common.{◌≡◌, ℕ, zero, suc, inl, inr, ◌+◌, ◌-◌, ◌*◌, ◌/◌, ◌<◌, ◌≤◌, List, [], ◌∷◌, ◌++◌, length, slice_index, refl, ap, ◌∙◌, ⊎_elim, arith, length-append, IsTrue, subst}
use Rattle.std.specs.List.{list_all}
use Rattle.std.proofs.lemmas.Bool.{cases_lt}
use Rattle.std.proofs.lemmas.List.{get_or_append_left, get_or-append_right}
use Rattle.place_numbers.specs.Numbers.{LastAtLeast}
use Rattle.mac_base.specs.declared.block.HeadKind.{HeadKind}
use Rattle.mac_base.specs.HeadKind.{zone_header}
use Rattle.block_bytes.specs.declared.blocks.Blocks.TheInside.{Inside}
use Rattle.block_bytes.specs.Layout.{RawBlock, size_of, is_possible}
use Rattle.block_bytes.specs.Finding.{SplitAt, LastFree, none_free}
use Rattle.block_bytes.specs.Reading.{layout_of, IsLayout}
use Rattle.block_bytes.specs.Starts.{marks_of}
use Rattle.block_bytes.proofs.ReadBlocks.{and-true, IsPossible, IsPossible-from, smallest-block}
use Rattle.block_bytes.proofs.Starts.{unmarked, length-unmarked, unmarked-at, large-free, length-marks_of}
use Rattle.block_bytes.proofs.NextFree.{mark-after, mark-further, mark-within, used-all, numbers-before, numbers-after, index-split, are-split}

-- the last free one of the blocks after the first is that of all
last-more : (heads : HeadKind) (from : ℕ) (b : RawBlock) (bs : List RawBlock) (k at : ℕ) → at ≡ from + size_of heads b + 4 * k
    → LastFree heads bs (from + size_of heads b) (from + size_of heads b + 4 * k) → LastFree heads (b ∷ bs) from at
last-more heads from b bs k at there f = let place = f.place in record {
  front = b ∷ f.front;
  here = f.here;
  passed = f.passed;
  blocks = ap (λ (l : List RawBlock). b ∷ l) f.blocks;
  used = f.used;
  free = f.free;
  place = omega arith;
}

-- a mark after that of the first block
last-after : (heads : HeadKind) (from : ℕ) (b : RawBlock) (bs : List RawBlock) (j : ℕ) → IsPossible heads b → length (marks_of heads (b ∷ bs)) ≡ size_of heads b / 4 + length (marks_of heads bs)
    → ((k : ℕ) → k < length (marks_of heads bs) → 3 ≤ slice_index (marks_of heads bs) k → ((i : ℕ) → k < i → i < length (marks_of heads bs) → slice_index (marks_of heads bs) i < 3) → LastFree heads bs (from + size_of heads b) (from + size_of heads b + 4 * k))
    → suc j < length (marks_of heads (b ∷ bs)) → 3 ≤ slice_index (marks_of heads (b ∷ bs)) (suc j) → ((i : ℕ) → suc j < i → i < length (marks_of heads (b ∷ bs)) → slice_index (marks_of heads (b ∷ bs)) i < 3)
    → LastFree heads (b ∷ bs) from (from + 4 * suc j)
last-after heads from b bs j p long others inside large low = elim (cases_lt j (size_of heads b / 4 - 1)) [
  | inl below ↦ let none = mark-within heads b bs j below in absurd (omega arith)
  | inr above ↦
      let even = p.even in let least = p.large in let some = smallest-block heads in let at = mark-further heads b bs j above in
      last-more heads from b bs (j - (size_of heads b / 4 - 1)) (from + 4 * suc j) (omega arith)
      (others (j - (size_of heads b / 4 - 1)) (omega arith) (omega arith) (λ i after within. let m = mark-after heads b bs i p in let l = low (size_of heads b / 4 + i) (omega arith) (omega arith) in omega arith))
]

-- the last mark of 3 or more is that of the last free block
free-last : (heads : HeadKind) (from : ℕ) (bs : List RawBlock) (j : ℕ) → IsTrue (list_all (is_possible heads) bs) → j < length (marks_of heads bs) → 3 ≤ slice_index (marks_of heads bs) j
    → ((i : ℕ) → j < i → i < length (marks_of heads bs) → slice_index (marks_of heads bs) i < 3) → LastFree heads bs from (from + 4 * j)
free-last heads from [] j possible inside large low = absurd (omega arith)
free-last heads from (b ∷ bs) zero possible inside large low =
    let both = and-true (is_possible heads b) (list_all (is_possible heads) bs) possible in let p = IsPossible-from heads b both.0 in
    let long = length-marks_of heads (b ∷ bs) possible in let long' = length-marks_of heads bs both.1 in let even = p.even in let least = p.large in let some = smallest-block heads in
    record {
      front = [];
      here = b;
      passed = bs;
      blocks = refl;
      used = used-all heads bs both.1 (λ i inside. let m = mark-after heads b bs i p in let l = low (size_of heads b / 4 + i) (omega arith) (omega arith) in omega arith);
      free = large-free b.lent b.role large;
      place = omega arith;
    }
free-last heads from (b ∷ bs) (suc j) possible inside large low =
    let both = and-true (is_possible heads b) (list_all (is_possible heads) bs) possible in let p = IsPossible-from heads b both.0 in
    let long = length-marks_of heads (b ∷ bs) possible in let long' = length-marks_of heads bs both.1 in let even = p.even in
    last-after heads from b bs j p (omega arith) (λ k inside large low. free-last heads (from + size_of heads b) bs k both.1 inside large low) inside large low

module _ (z : Inside) (whole : IsLayout z) (end : ℕ) (split : SplitAt (layout_of z) end) (place : ℕ) (there : place ≡ (end - z.spec.base) / 4) where
  -- the numbers of the blocks before the address
  abbrev low-marks : List ℕ
  low-marks = marks_of z.spec.heads split.before

  -- how many there are
  low-count : zone_header / 4 + length low-marks ≡ place
  low-count = let long = (are-split z whole end split place there).long in let sum = length-append (unmarked (zone_header / 4)) low-marks in let first = length-unmarked (zone_header / 4) in omega arith

  -- a number before the address
  number-below : (i : ℕ) → i < place → slice_index z.index i ≡ slice_index (unmarked (zone_header / 4) ++ low-marks) i
  number-below i below = ap (λ (ms : List ℕ). slice_index ms i) (index-split z whole end split place there)
      ∙ get_or_append_left (numbers-before z whole end split place there) (marks_of z.spec.heads split.after ++ numbers-after z whole end split place there) 0 i
      (let long = (are-split z whole end split place there).long in omega arith)

  -- is that of a block, after the zone's header
  number-low : (i : ℕ) → i < length low-marks → slice_index z.index (zone_header / 4 + i) ≡ slice_index low-marks i
  number-low i inside = number-below (zone_header / 4 + i) (let count = low-count in omega arith)
      ∙ get_or-append_right (unmarked (zone_header / 4)) low-marks (zone_header / 4) (zone_header / 4 + i) 0 (length-unmarked (zone_header / 4)) (omega arith)
      ∙ ap (λ (k : ℕ). slice_index low-marks k) (let e : zone_header / 4 + i - zone_header / 4 ≡ i = omega arith in e)

  -- the last number of 3 or more is that of the last free block
  pub last-at : (p : ℕ) → LastAtLeast z.index 3 place p → LastFree z.spec.heads split.before (z.spec.base + zone_header) (z.spec.base + 4 * p) × (4 * p < z.spec.size)
  last-at p found = ⊎_elim head within (cases_lt p (zone_header / 4))
    where
      head : p < zone_header / 4 → LastFree z.spec.heads split.before (z.spec.base + zone_header) (z.spec.base + 4 * p) × (4 * p < z.spec.size)
      head low =
          let large = found.large in let inside = found.inside in let none = length-unmarked (zone_header / 4) in
          let zero_there = number-below p inside ∙ get_or_append_left (unmarked (zone_header / 4)) low-marks 0 p (omega arith) ∙ unmarked-at (zone_header / 4) p in
          absurd (omega arith)

      within : zone_header / 4 ≤ p → LastFree z.spec.heads split.before (z.spec.base + zone_header) (z.spec.base + 4 * p) × (4 * p < z.spec.size)
      within above =
          let s = are-split z whole end split place there in let ends = s.ends in let count = low-count in let inside = found.inside in let large = found.large in
          let at = number-low (p - zone_header / 4) (omega arith) in
          let same : slice_index z.index p ≡ slice_index z.index (zone_header / 4 + (p - zone_header / 4)) = ap (λ (k : ℕ). slice_index z.index k) (omega arith) in (
            subst (LastFree z.spec.heads split.before (z.spec.base + zone_header)) (let e : z.spec.base + zone_header + 4 * (p - zone_header / 4) ≡ z.spec.base + 4 * p = omega arith in e)
                (free-last z.spec.heads (z.spec.base + zone_header) split.before (p - zone_header / 4) s.before_possible (omega arith) (omega arith)
                (λ i after inside. let m = number-low i inside in let less = found.last (zone_header / 4 + i) (omega arith) (omega arith) in omega arith)),
            omega arith,
          )

  -- where there is none, none of them is free
  pub none-last : ((j : ℕ) → j < place → slice_index z.index j < 3) → IsTrue (none_free split.before)
  none-last none = let s = are-split z whole end split place there in let count = low-count in
      used-all z.spec.heads split.before s.before_possible (λ i inside. let m = number-low i inside in let less = none (zone_header / 4 + i) (omega arith) in omega arith)
