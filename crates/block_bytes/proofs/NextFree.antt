-- The first free block after some blocks, by the index.
use Rattle.std.proofs.Common.{◌≡◌, ℕ, zero, suc, inl, inr, ◌+◌, ◌-◌, ◌*◌, ◌/◌, ◌<◌, ◌≤◌, Bool, true, false, List, [], ◌∷◌, ◌++◌, length, slice_index, not, refl, sym, ap, ◌∙◌, ⊎_elim, arith, append_assoc, length-append, IsTrue, subst}
use Rattle.std.specs.Prelude.{◌&&◌, nat_lt}
use Rattle.std.specs.List.{list_all}
use Rattle.std.proofs.lemmas.Bool.{cases_lt}
use Rattle.std.proofs.lemmas.Bool.Decides.{nat_tests}
use Rattle.std.proofs.lemmas.List.{get_or_append_left, get_or-append_right}
use Rattle.std.proofs.lemmas.List.Folds.{list_all-append}
use Rattle.place_numbers.specs.Numbers.{FirstAtLeast}
use Rattle.mac_base.specs.declared.block.HeadKind.{HeadKind}
use Rattle.mac_base.specs.HeadKind.{zone_header}
use Rattle.block_bytes.specs.declared.blocks.Blocks.TheInside.{Inside}
use Rattle.block_bytes.specs.Layout.{RawBlock, is_free, size_of, total_of, is_possible, with_blocks}
use Rattle.block_bytes.specs.Finding.{SplitAt, FirstFree, none_free}
use Rattle.block_bytes.specs.Reading.{layout_of, IsLayout}
use Rattle.block_bytes.specs.Starts.{mark_of, marks_of, starts_of}
use Rattle.block_bytes.proofs.Rendered.{total_of-append}
use Rattle.block_bytes.proofs.ReadBlocks.{and-true, IsPossible, IsPossible-from, smallest-block}
use Rattle.block_bytes.proofs.Parts.{total-ends}
use Rattle.block_bytes.proofs.Starts.{unmarked, length-unmarked, unmarked-at, length-before, mark-free, large-free, marks_of-append, length-marks_of}

-- the marks after those of the first block are those of the others
pub mark-after : (heads : HeadKind) (b : RawBlock) (bs : List RawBlock) (i : ℕ) → IsPossible heads b → slice_index (marks_of heads (b ∷ bs)) (size_of heads b / 4 + i) ≡ slice_index (marks_of heads bs) i
mark-after heads b bs i p =
    let n = size_of heads b / 4 - 1 in let large = p.large in let some = smallest-block heads in
    ap (λ (k : ℕ). slice_index (marks_of heads (b ∷ bs)) k) (let e : size_of heads b / 4 + i ≡ suc (n + i) = omega arith in e)
    ∙ get_or-append_right (unmarked n) (marks_of heads bs) n (n + i) 0 (length-unmarked n) (omega arith)
    ∙ ap (λ (k : ℕ). slice_index (marks_of heads bs) k) (let e : n + i - n ≡ i = omega arith in e)

-- a block whose mark is below 3 isn't free
mark-used : (heads : HeadKind) (b : RawBlock) → IsPossible heads b → mark_of heads b < 3 → not (is_free b.role) ≡ true
mark-used heads b p low = ap not (sym (mark-free heads b p) ∙ below (mark_of heads b) low)
  where
    below : (m : ℕ) → m < 3 → nat_lt 2 m ≡ false
    below m low = grind (arith, nat_tests)

-- where all marks are below 3, no block is free
pub used-all : (heads : HeadKind) (bs : List RawBlock) → IsTrue (list_all (is_possible heads) bs) → ((i : ℕ) → i < length (marks_of heads bs) → slice_index (marks_of heads bs) i < 3) → IsTrue (none_free bs)
used-all heads [] possible low = refl
used-all heads (b ∷ bs) possible low =
    let both = and-true (is_possible heads b) (list_all (is_possible heads) bs) possible in let p = IsPossible-from heads b both.0 in
    let long = length-marks_of heads (b ∷ bs) possible in let long' = length-marks_of heads bs both.1 in let even = p.even in let large = p.large in let some = smallest-block heads in
    ap (λ (t : Bool). t && none_free bs) (mark-used heads b p (low 0 (omega arith)))
    ∙ used-all heads bs both.1 (λ i inside. let m = mark-after heads b bs i p in let l = low (size_of heads b / 4 + i) (omega arith) in omega arith)

-- the first free block after one that isn't free
free-more : (heads : HeadKind) (from : ℕ) (b : RawBlock) (bs : List RawBlock) (k at : ℕ) → not (is_free b.role) ≡ true → at ≡ from + size_of heads b + 4 * k
    → FirstFree heads bs (from + size_of heads b) (from + size_of heads b + 4 * k) → FirstFree heads (b ∷ bs) from at
free-more heads from b bs k at used there f = let place = f.place in record {
  passed = b ∷ f.passed;
  here = f.here;
  after = f.after;
  blocks = ap (λ (l : List RawBlock). b ∷ l) f.blocks;
  used = ap (λ (t : Bool). t && none_free f.passed) used ∙ f.used;
  free = f.free;
  place = omega arith;
}

-- a number after the mark of the first block is 0 within it, and that of a block after it further on
pub mark-within : (heads : HeadKind) (b : RawBlock) (bs : List RawBlock) (j : ℕ) → j < size_of heads b / 4 - 1 → slice_index (marks_of heads (b ∷ bs)) (suc j) ≡ 0
mark-within heads b bs j below = let n = size_of heads b / 4 - 1 in let long = length-unmarked n in get_or_append_left (unmarked n) (marks_of heads bs) 0 j (omega arith) ∙ unmarked-at n j

pub mark-further : (heads : HeadKind) (b : RawBlock) (bs : List RawBlock) (j : ℕ) → size_of heads b / 4 - 1 ≤ j → slice_index (marks_of heads (b ∷ bs)) (suc j) ≡ slice_index (marks_of heads bs) (j - (size_of heads b / 4 - 1))
mark-further heads b bs j above = let n = size_of heads b / 4 - 1 in get_or-append_right (unmarked n) (marks_of heads bs) n j 0 (length-unmarked n) above

-- a mark after that of the first block, which isn't free
free-after : (heads : HeadKind) (from : ℕ) (b : RawBlock) (bs : List RawBlock) (j : ℕ) → IsPossible heads b → length (marks_of heads (b ∷ bs)) ≡ size_of heads b / 4 + length (marks_of heads bs)
    → ((k : ℕ) → k < length (marks_of heads bs) → 3 ≤ slice_index (marks_of heads bs) k → ((i : ℕ) → i < k → slice_index (marks_of heads bs) i < 3) → FirstFree heads bs (from + size_of heads b) (from + size_of heads b + 4 * k))
    → suc j < length (marks_of heads (b ∷ bs)) → 3 ≤ slice_index (marks_of heads (b ∷ bs)) (suc j) → ((i : ℕ) → i < suc j → slice_index (marks_of heads (b ∷ bs)) i < 3) → FirstFree heads (b ∷ bs) from (from + 4 * suc j)
free-after heads from b bs j p long others inside large low = elim (cases_lt j (size_of heads b / 4 - 1)) [
  | inl below ↦ let none = mark-within heads b bs j below in absurd (omega arith)
  | inr above ↦
      let even = p.even in let least = p.large in let some = smallest-block heads in let at = mark-further heads b bs j above in
      free-more heads from b bs (j - (size_of heads b / 4 - 1)) (from + 4 * suc j) (mark-used heads b p (low 0 (omega arith))) (omega arith)
      (others (j - (size_of heads b / 4 - 1)) (omega arith) (omega arith) (λ i before. let m = mark-after heads b bs i p in let l = low (size_of heads b / 4 + i) (omega arith) in omega arith))
]

-- the first mark of 3 or more is that of the first free block
free-first : (heads : HeadKind) (from : ℕ) (bs : List RawBlock) (j : ℕ) → IsTrue (list_all (is_possible heads) bs) → j < length (marks_of heads bs) → 3 ≤ slice_index (marks_of heads bs) j
    → ((i : ℕ) → i < j → slice_index (marks_of heads bs) i < 3) → FirstFree heads bs from (from + 4 * j)
free-first heads from [] j possible inside large low = absurd (omega arith)
free-first heads from (b ∷ bs) zero possible inside large low =
    record { passed = []; here = b; after = bs; blocks = refl; used = refl; free = large-free b.lent b.role large; place = omega arith }
free-first heads from (b ∷ bs) (suc j) possible inside large low =
    let both = and-true (is_possible heads b) (list_all (is_possible heads) bs) possible in let p = IsPossible-from heads b both.0 in
    let long = length-marks_of heads (b ∷ bs) possible in let long' = length-marks_of heads bs both.1 in let even = p.even in
    free-after heads from b bs j p (omega arith) (λ k inside large low. free-first heads (from + size_of heads b) bs k both.1 inside large low) inside large low

module _ (z : Inside) (whole : IsLayout z) (from : ℕ) (split : SplitAt (layout_of z) from) (first : ℕ) (there : first ≡ (from - z.spec.base) / 4) where
  -- the numbers before those of the blocks
  abbrev pub numbers-before : List ℕ
  numbers-before = unmarked (zone_header / 4) ++ marks_of z.spec.heads split.before

  -- and those after them
  abbrev pub numbers-after : List ℕ
  numbers-after = unmarked (length (layout_of z).spare / 4)

  -- the index, by where the blocks begin
  pub index-split : z.index ≡ numbers-before ++ (marks_of z.spec.heads split.after ++ numbers-after)
  index-split = whole.marked ∙ ap (λ (bs : List RawBlock). starts_of (with_blocks bs (layout_of z))) split.blocks
      ∙ ap (λ (ms : List ℕ). unmarked (zone_header / 4) ++ (ms ++ numbers-after)) (marks_of-append z.spec.heads split.before split.after) ∙ simp append_assoc

  -- what the blocks are
  pub record AreSplit : Type 0 where
    pub long : length numbers-before ≡ first
    pub place : from ≡ z.spec.base + 4 * first
    pub before_possible : IsTrue (list_all (is_possible z.spec.heads) split.before)
    pub after_possible : IsTrue (list_all (is_possible z.spec.heads) split.after)
    pub ends : 4 * (first + length (marks_of z.spec.heads split.after)) ≡ z.spec.size
    pub all : first + length (marks_of z.spec.heads split.after) ≤ length z.index

  pub are-split : AreSplit
  are-split =
      let heads = z.spec.heads in
      let parts = and-true (list_all (is_possible heads) split.before) (list_all (is_possible heads) split.after)
      (sym (list_all-append (is_possible heads) split.before split.after) ∙ sym (ap (list_all (is_possible heads)) split.blocks) ∙ whole.possible) in
      let low = length-marks_of heads split.before parts.0 in let high = length-marks_of heads split.after parts.1 in let place = split.place in
      let sum = ap (total_of heads) split.blocks ∙ total_of-append heads split.before split.after in let ends = total-ends z whole in
      let long = length-before heads split.before first parts.0 (omega arith) in
      let a = ap length index-split in let b = length-append numbers-before (marks_of heads split.after ++ numbers-after) in let c = length-append (marks_of heads split.after) numbers-after in
      record { long = long; place = omega arith; before_possible = parts.0; after_possible = parts.1; ends = omega arith; all = omega arith }

  -- a number after those before
  number-at : (i : ℕ) → slice_index z.index (first + i) ≡ slice_index (marks_of z.spec.heads split.after ++ numbers-after) i
  number-at i = ap (λ (ms : List ℕ). slice_index ms (first + i)) index-split
      ∙ get_or-append_right numbers-before (marks_of z.spec.heads split.after ++ numbers-after) first (first + i) 0 are-split.long (omega arith)
      ∙ ap (λ (k : ℕ). slice_index (marks_of z.spec.heads split.after ++ numbers-after) k) (let e : first + i - first ≡ i = omega arith in e)

  -- is that of a block, up to the end
  number-within : (i : ℕ) → i < length (marks_of z.spec.heads split.after) → slice_index z.index (first + i) ≡ slice_index (marks_of z.spec.heads split.after) i
  number-within i inside = number-at i ∙ get_or_append_left (marks_of z.spec.heads split.after) numbers-after 0 i inside

  -- the first number of 3 or more is that of the first free block
  pub next-at : (p : ℕ) → FirstAtLeast z.index 3 first p → FirstFree z.spec.heads split.after from (z.spec.base + 4 * p) × (4 * p < z.spec.size)
  next-at p found = ⊎_elim within further (cases_lt (p - first) (length (marks_of z.spec.heads split.after)))
    where
      within : p - first < length (marks_of z.spec.heads split.after) → FirstFree z.spec.heads split.after from (z.spec.base + 4 * p) × (4 * p < z.spec.size)
      within inside =
          let s = are-split in let place = s.place in let ends = s.ends in let low = found.inside in let large = found.large in
          let at = number-within (p - first) inside in let same : slice_index z.index p ≡ slice_index z.index (first + (p - first)) = ap (λ (k : ℕ). slice_index z.index k) (omega arith) in (
            subst (FirstFree z.spec.heads split.after from) (let e : from + 4 * (p - first) ≡ z.spec.base + 4 * p = omega arith in e)
                (free-first z.spec.heads from split.after (p - first) s.after_possible inside (omega arith)
                (λ i before. let m = number-within i (omega arith) in let less = found.first (first + i) (omega arith) (omega arith) in omega arith)),
            omega arith,
          )

      further : length (marks_of z.spec.heads split.after) ≤ p - first → FirstFree z.spec.heads split.after from (z.spec.base + 4 * p) × (4 * p < z.spec.size)
      further above =
          let low = found.inside in let large = found.large in let at = number-at (p - first) in
          let same : slice_index z.index p ≡ slice_index z.index (first + (p - first)) = ap (λ (k : ℕ). slice_index z.index k) (omega arith) in
          let none : slice_index (marks_of z.spec.heads split.after ++ numbers-after) (p - first) ≡ 0 =
          get_or-append_right (marks_of z.spec.heads split.after) numbers-after (length (marks_of z.spec.heads split.after)) (p - first) 0 refl above
          ∙ unmarked-at (length (layout_of z).spare / 4) (p - first - length (marks_of z.spec.heads split.after)) in
          absurd (omega arith)

  -- where there is none, none of them is free
  pub none-next : ((j : ℕ) → first ≤ j → j < length z.index → slice_index z.index j < 3) → IsTrue (none_free split.after)
  none-next none = let s = are-split in let all = s.all in
      used-all z.spec.heads split.after s.after_possible (λ i inside. let m = number-within i inside in let less = none (first + i) (omega arith) (omega arith) in omega arith)
