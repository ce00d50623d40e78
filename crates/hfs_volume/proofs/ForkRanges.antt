-- Extents one after another: those that are needed, and where their bytes are.
use Rattle.std.proofs.Common.{◌≡◌, ℕ, ◌+◌, ◌-◌, ◌*◌, ◌^◌, ◌<◌, ◌≤◌, ◌==◌, ◌⊎◌, inl, inr, Bool, true, false, if◌then◌else◌, min, List, [], ◌∷◌, ◌++◌, length, take, drop, get_or, refl, sym, ap, ◌∙◌, arith}
use Rattle.std.proofs.lemmas.List.{append_assoc, append-nil, at_drop_more, at_drop_all, length-take, length-take-le, length-drop, take-append-le, take-take}
use Rattle.std.proofs.lemmas.Bool.{and_parts, leb-true, eqb-true, cases_lt}
use Rattle.std.proofs.lemmas.List.Sums.{sum_by-cons}
use Rattle.std.proofs.Math.Nat.{add-mul}
use Rattle.std.specs.List.{AllByRecursion, list_all}
use lib.Seq.{take-append-add, take-nil}
use Rattle.fork_disk.specs.Disk.{bytes_at}
use Rattle.disk_ranges.specs.declared.read.Range.{Range}
use Rattle.disk_ranges.specs.Ranges.{bytes_of, total, IsInDisk, IsShort, AreWithin}
use Rattle.hfs_tree.specs.declared.extent.Extent.{Extent}
use Rattle.hfs_tree.specs.declared.extent.Layout.{Layout}
use Rattle.hfs_volume.specs.Overflow.{block_count}
use Rattle.hfs_volume.specs.Forks.{bytes_in, cut_to, ranges_in, is_there}

-- the extent at an index
abbrev pub extent_of : List Extent → ℕ → Extent
extent_of extents i = get_or extents i (record { start = 0; count = 0 })

-- extents cut to no blocks are none
none_cut : (extents : List Extent) (left : ℕ) → left ≡ 0 → cut_to left extents ≡ []
unfolding cut_to
none_cut [] left none = refl
none_cut (extent ∷ extents) left none = rw none refl

-- so that those before are all
pub cut_is : (cut extents : List Extent) (i left : ℕ) → left ≡ 0 → cut ++ cut_to left (drop i extents) ≡ cut
cut_is cut extents i left none = ap (λ (xs : List Extent). cut ++ xs) (none_cut (drop i extents) left none) ∙ append-nil cut

pub cut_ends : (cut extents : List Extent) (i left : ℕ) → length extents ≤ i → cut ++ cut_to left (drop i extents) ≡ cut
unfolding cut_to
cut_ends cut extents i left past = ap (λ (xs : List Extent). cut ++ xs) (at_drop_all (λ xs. cut_to left xs) extents i past) ∙ append-nil cut

-- one more is cut
pub cut_more : (cut extents : List Extent) (i left count : ℕ) → i < length extents → (left == 0) ≡ false → count ≡ min left (extent_of extents i).count
    → cut ++ cut_to left (drop i extents)
    ≡ (cut ++ record { start = (extent_of extents i).start; count = count } ∷ []) ++ cut_to (left - count) (drop (i + 1) extents)
unfolding cut_to
cut_more cut extents i left count at some is =
    let next : Extent = record { start = (extent_of extents i).start; count = count } in
    let rest : left - (extent_of extents i).count ≡ left - count = omega (arith, is) in
    let step : cut_to left (drop i extents) ≡ next ∷ cut_to (left - count) (drop (i + 1) extents) =
    at_drop_more (λ xs. cut_to left xs) extents i (record { start = 0; count = 0 }) at ∙ rw (some, ← is, rest) refl in
    ap (λ (xs : List Extent). cut ++ xs) step ∙ sym (append_assoc cut (next ∷ []) (cut_to (left - count) (drop (i + 1) extents)))

-- the bytes of a range that lies within the volume, and of those after it, are those of an extent that begins there, and of what comes after it
more_bytes : (bytes : List ℕ) (at count size : ℕ) (rest : List ℕ) (others : List Range) → (size - count ≡ 0 → others ≡ []) → at + min size count ≤ length bytes
    → bytes_of others bytes ≡ take (size - count) rest → ((count < size) ⊎ (size ≤ count)) → bytes_at (min size count) at bytes ++ bytes_of others bytes ≡ take size (bytes_at count at bytes ++ rest)
unfolding bytes_of
more_bytes bytes at count size rest others none within are (inl less) =
    let this : min size count ≡ count = omega (arith, less) in
    let whole = length-drop at bytes in
    let long : length (bytes_at count at bytes) ≡ count = length-take-le count (drop at bytes) (omega (arith, within, whole, this)) in
    let on : size ≡ length (bytes_at count at bytes) + (size - count) = omega (arith, long, less) in
    ap (λ (k : ℕ). bytes_at k at bytes ++ bytes_of others bytes) this
    ∙ ap (λ (xs : List ℕ). bytes_at count at bytes ++ xs) are
    ∙ sym (take-append-add (bytes_at count at bytes) rest (size - count)) ∙ ap (λ (k : ℕ). take k (bytes_at count at bytes ++ rest)) (sym on)
more_bytes bytes at count size rest others none within are (inr enough) =
    let this : min size count ≡ size = omega (arith, enough) in
    let whole = length-drop at bytes in
    let taken = length-take count (drop at bytes) in
    let no_more : bytes_of others bytes ≡ [] = ap (λ (rs : List Range). bytes_of rs bytes) (none (omega (arith, enough))) in
    let long : size ≤ length (bytes_at count at bytes) = omega (arith, enough, within, whole, this, taken) in
    ap (λ (xs : List ℕ). bytes_at (min size count) at bytes ++ xs) no_more ∙ append-nil (bytes_at (min size count) at bytes)
    ∙ ap (λ (k : ℕ). bytes_at k at bytes) this
    ∙ sym (take-take size count (drop at bytes) enough) ∙ sym (take-append-le size (bytes_at count at bytes) rest long)

-- and of none, or of some
by_case : (bytes : List ℕ) (at count size : ℕ) (rest : List ℕ) (others : List Range) → (size - count ≡ 0 → others ≡ []) → (none : Bool) → (size == 0) ≡ none
    → list_all (is_there (length bytes)) (if none then [] else record { at = at; length = min size count } ∷ others) ≡ true
    → (list_all (is_there (length bytes)) others ≡ true → bytes_of others bytes ≡ take (size - count) rest)
    → bytes_of (if none then [] else record { at = at; length = min size count } ∷ others) bytes ≡ take size (bytes_at count at bytes ++ rest)
unfolding bytes_of
by_case bytes at count size rest others empty true is there are = let none : size ≡ 0 = eqb-true size 0 is in rw none refl
by_case bytes at count size rest others empty false is there are =
    let both = and_parts (is_there (length bytes) (record { at = at; length = min size count })) (list_all (is_there (length bytes)) others) there in
    more_bytes bytes at count size rest others empty (leb-true (at + min size count) (length bytes) both.0) (are both.1) (cases_lt count size)

module _ (layout : Layout) where
  -- no bytes have no ranges
  none_in : (extents : List Extent) (left : ℕ) → left ≡ 0 → ranges_in layout left extents ≡ []
  unfolding ranges_in
  none_in [] left none = refl
  none_in (extent ∷ extents) left none = rw none refl

  pub ranges_are : (ranges : List Range) (extents : List Extent) (i left : ℕ) → left ≡ 0 → ranges ++ ranges_in layout left (drop i extents) ≡ ranges
  ranges_are ranges extents i left none = ap (λ (xs : List Range). ranges ++ xs) (none_in (drop i extents) left none) ∙ append-nil ranges

  pub ranges_end : (ranges : List Range) (extents : List Extent) (i left : ℕ) → length extents ≤ i → ranges ++ ranges_in layout left (drop i extents) ≡ ranges
  unfolding ranges_in
  ranges_end ranges extents i left past = ap (λ (xs : List Range). ranges ++ xs) (at_drop_all (λ xs. ranges_in layout left xs) extents i past) ∙ append-nil ranges

  -- one more range
  pub ranges_more : (ranges : List Range) (extents : List Extent) (i left count : ℕ) → i < length extents → (left == 0) ≡ false
      → count ≡ min left ((extent_of extents i).count * layout.size)
      → ranges ++ ranges_in layout left (drop i extents)
      ≡ (ranges ++ record { at = layout.offset + (extent_of extents i).start * layout.size; length = count } ∷ []) ++ ranges_in layout (left - count) (drop (i + 1) extents)
  unfolding ranges_in
  ranges_more ranges extents i left count at some is =
      let next : Range = record { at = layout.offset + (extent_of extents i).start * layout.size; length = count } in
      let rest : left - (extent_of extents i).count * layout.size ≡ left - count = omega (arith, is) in
      let step : ranges_in layout left (drop i extents) ≡ next ∷ ranges_in layout (left - count) (drop (i + 1) extents) =
      at_drop_more (λ xs. ranges_in layout left xs) extents i (record { start = 0; count = 0 }) at ∙ rw (some, ← is, rest) refl in
      ap (λ (xs : List Range). ranges ++ xs) step ∙ sym (append_assoc ranges (next ∷ []) (ranges_in layout (left - count) (drop (i + 1) extents)))

  -- ranges have as many bytes as they are to have, if the extents do
  pub total_is : (extents : List Extent) (size : ℕ) → size ≤ block_count extents * layout.size → total (ranges_in layout size extents) ≡ size
  unfolding ranges_in total
  total_is [] size enough = omega (arith, enough)
  total_is (extent ∷ extents) size enough =
      let both : block_count (extent ∷ extents) * layout.size ≡ extent.count * layout.size + block_count extents * layout.size =
      ap (λ (k : ℕ). k * layout.size) (sum_by-cons (λ (e : Extent). e.count) extent extents) ∙ add-mul extent.count (block_count extents) layout.size in
      by_case (size == 0) refl (total_is extents (size - extent.count * layout.size) (omega (arith, enough, both)))
    where
      others : List Range
      others = ranges_in layout (size - extent.count * layout.size) extents

      by_case : (none : Bool) → (size == 0) ≡ none → total others ≡ size - extent.count * layout.size
          → total (if none then [] else record { at = layout.offset + extent.start * layout.size; length = min size (extent.count * layout.size) } ∷ others) ≡ size
      by_case true is rest = sym (eqb-true size 0 is)
      by_case false is rest = omega (arith, rest)

  -- the bytes of ranges that lie within the volume are those of the extents, so many of them
  pub bytes_are : (bytes : List ℕ) (extents : List Extent) (size : ℕ) → list_all (is_there (length bytes)) (ranges_in layout size extents) ≡ true
      → bytes_of (ranges_in layout size extents) bytes ≡ take size (bytes_in bytes layout extents)
  unfolding ranges_in bytes_of bytes_in
  bytes_are bytes [] size there = sym (take-nil size)
  bytes_are bytes (extent ∷ extents) size there =
      by_case bytes (layout.offset + extent.start * layout.size) (extent.count * layout.size) size (bytes_in bytes layout extents)
      (ranges_in layout (size - extent.count * layout.size) extents) (λ none. none_in extents (size - extent.count * layout.size) none)
      (size == 0) refl there (λ others. bytes_are bytes extents (size - extent.count * layout.size) others)

-- ranges that are there lie within the volume
all_short : (size : ℕ) (ranges : List Range) → size < 2 ^ 64 → list_all (is_there size) ranges ≡ true → AllByRecursion IsShort ranges
all_short size [] low there = tt
all_short size (range ∷ ranges) low there =
    let both = and_parts (is_there size range) (list_all (is_there size) ranges) there in
    let ends = leb-true (range.at + range.length) size both.0 in
    (omega (arith, ends, low), all_short size ranges low both.1)

all_inside : (size : ℕ) (ranges : List Range) → list_all (is_there size) ranges ≡ true → AllByRecursion (IsInDisk size) ranges
all_inside size [] there = tt
all_inside size (range ∷ ranges) there =
    let both = and_parts (is_there size range) (list_all (is_there size) ranges) there in
    (leb-true (range.at + range.length) size both.0, all_inside size ranges both.1)

pub are_within : (size : ℕ) (ranges : List Range) → size < 2 ^ 64 → total ranges < 2 ^ 64 → list_all (is_there size) ranges ≡ true → AreWithin size ranges
are_within size ranges low few there = record { short = all_short size ranges low there; few = few; inside = all_inside size ranges there }
