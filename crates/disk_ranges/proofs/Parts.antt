-- Ranges of ranges of a disk are ranges of the disk: views need not be put on one another.
use Rattle.std.proofs.Common.{◌≡◌, ℕ, ◌+◌, ◌-◌, ◌<◌, ◌≤◌, List, [], ◌∷◌, ◌++◌, length, take, drop, min, refl, sym, ap, subst, ◌∙◌, arith}
use Rattle.std.proofs.lemmas.List.{append_assoc, append-nil, at_drop_all, take_more}
use Rattle.std.specs.List.{AllByRecursion}
use lib.Seq.{take-nil, drop-nil}
use Rattle.fork_disk.specs.Disk.{bytes_at}
use Rattle.disk_ranges.specs.declared.read.Range.{Range}
use Rattle.disk_ranges.specs.Ranges.{bytes_of, total, IsInDisk, IsShort, HasRanges}
use Rattle.disk_ranges.proofs.Steps.{range_at, each_at, skips_at, reads_at}

-- what some ranges have and what others have
all_append : (P : Range → Type 0) (first others : List Range) → AllByRecursion P first → AllByRecursion P others → AllByRecursion P (first ++ others)
all_append P [] others a b = b
all_append P (range ∷ first) others a b = (a.0, all_append P first others a.1 b)

total-append : (first others : List Range) → total (first ++ others) ≡ total first + total others
unfolding total
total-append [] others = omega arith
total-append (range ∷ first) others = let rest = total-append first others in omega (arith, rest)

bytes_of-append : (first others : List Range) (disk : List ℕ) → bytes_of (first ++ others) disk ≡ bytes_of first disk ++ bytes_of others disk
unfolding bytes_of
bytes_of-append [] others disk = refl
bytes_of-append (range ∷ first) others disk =
    ap (λ (xs : List ℕ). bytes_at range.length range.at disk ++ xs) (bytes_of-append first others disk)
    ∙ sym (append_assoc (bytes_at range.length range.at disk) (bytes_of first disk) (bytes_of others disk))

-- the parts so far, and what the ranges from an index on have of the rest, have what is wanted
pub record HasParts (outer : List Range) (inner : Range) (parts : List Range) (i skipped left : ℕ) : Type 0 where
  pub bytes : (disk : List ℕ) → AllByRecursion (IsInDisk (length disk)) outer
      → bytes_of parts disk ++ bytes_at left skipped (bytes_of (drop i outer) disk) ≡ bytes_at inner.length inner.at (bytes_of outer disk)
  pub inside : (size : ℕ) → AllByRecursion (IsInDisk size) outer → AllByRecursion (IsInDisk size) parts
  pub short : AllByRecursion IsShort parts
  pub few : total parts + left ≡ inner.length

-- before the first
pub no_parts : (outer : List Range) (inner : Range) → HasParts outer inner [] 0 inner.at inner.length
unfolding bytes_of total
no_parts outer inner = record { bytes = λ disk all. refl; inside = λ size all. tt; short = tt; few = omega arith }

-- the range at an index has nothing of it
pub part_past : (outer : List Range) (inner : Range) (parts : List Range) (i skipped left : ℕ) → i < length outer → (range_at outer i).length ≤ skipped
    → HasParts outer inner parts i skipped left → HasParts outer inner parts (i + 1) (skipped - (range_at outer i).length) left
part_past outer inner parts i skipped left at past so_far = record {
  bytes = λ disk all. (
      ap (λ (xs : List ℕ). bytes_of parts disk ++ xs) (skips_at outer i disk skipped left at (each_at (IsInDisk (length disk)) outer i at all) past)
      ∙ so_far.bytes disk all);
  inside = so_far.inside;
  short = so_far.short;
  few = so_far.few;
}

-- or some
pub part_here : (outer : List Range) (inner : Range) (parts : List Range) (i skipped left count : ℕ) → i < length outer → skipped < (range_at outer i).length
    → count ≡ min left ((range_at outer i).length - skipped) → AllByRecursion IsShort outer
    → HasParts outer inner parts i skipped left
    → HasParts outer inner (parts ++ record { at = (range_at outer i).at + skipped; length = count } ∷ []) (i + 1) 0 (left - count)
unfolding bytes_of total
part_here outer inner parts i skipped left count at less is short so_far =
    let first = range_at outer i in
    let part : Range = record { at = first.at + skipped; length = count } in
    let ends = each_at IsShort outer i at short in
    let sum = total-append parts (part ∷ []) in
    let were = so_far.few in
    record {
      bytes = λ disk all. (
          let rest = bytes_at (left - count) 0 (bytes_of (drop (i + 1) outer) disk) in
          let here = bytes_at count (first.at + skipped) disk in
          ap (λ (xs : List ℕ). xs ++ rest) (bytes_of-append parts (part ∷ []) disk ∙ ap (λ (xs : List ℕ). bytes_of parts disk ++ xs) (append-nil here))
          ∙ append_assoc (bytes_of parts disk) here rest
          ∙ ap (λ (xs : List ℕ). bytes_of parts disk ++ xs) (reads_at outer i disk skipped left count at (each_at (IsInDisk (length disk)) outer i at all) less is)
          ∙ so_far.bytes disk all);
      inside = λ size all. (
          let within = each_at (IsInDisk size) outer i at all in
          all_append (IsInDisk size) parts (part ∷ []) (so_far.inside size all) (omega (arith, within, is, less), tt));
      short = all_append IsShort parts (part ∷ []) so_far.short (omega (arith, ends, is, less), tt);
      few = omega (arith, sum, were, is);
    }

-- after the last range these are the parts
pub parts_are : (outer : List Range) (inner : Range) (parts : List Range) (i skipped left : ℕ) → length outer ≤ i → HasParts outer inner parts i skipped left
    → HasRanges outer (inner ∷ []) parts
unfolding bytes_of total
parts_are outer inner parts i skipped left past all_parts =
    let were = all_parts.few in
    record {
      bytes = λ disk all. (
          let none = at_drop_all (λ rs. bytes_at left skipped (bytes_of rs disk)) outer i past ∙ ap (take left) (drop-nil skipped) ∙ take-nil left in
          sym (append-nil (bytes_of parts disk)) ∙ sym (ap (λ (xs : List ℕ). bytes_of parts disk ++ xs) none) ∙ all_parts.bytes disk all ∙ sym (append-nil _));
      inside = all_parts.inside;
      short = all_parts.short;
      few = omega (arith, were);
    }

-- no ranges have no bytes
pub no_ranges : (outer : List Range) → HasRanges outer [] []
unfolding bytes_of total
no_ranges outer = record { bytes = λ disk all. refl; inside = λ size all. tt; short = tt; few = omega arith }

-- the ranges of one more
both_ranges : (outer inner ranges : List Range) (next : Range) (parts : List Range) → HasRanges outer inner ranges → HasRanges outer (next ∷ []) parts
    → HasRanges outer (inner ++ next ∷ []) (ranges ++ parts)
both_ranges outer inner ranges next parts before here =
    let sum = total-append ranges parts in
    let wanted = total-append inner (next ∷ []) in
    let were = before.few in
    let are = here.few in
    record {
      bytes = λ disk all. (
          bytes_of-append ranges parts disk
          ∙ ap (λ (xs : List ℕ). xs ++ bytes_of parts disk) (before.bytes disk all)
          ∙ ap (λ (xs : List ℕ). bytes_of inner (bytes_of outer disk) ++ xs) (here.bytes disk all)
          ∙ sym (bytes_of-append inner (next ∷ []) (bytes_of outer disk)));
      inside = λ size all. all_append (IsInDisk size) ranges parts (before.inside size all) (here.inside size all);
      short = all_append IsShort ranges parts before.short here.short;
      few = omega (arith, sum, wanted, were, are);
    }

pub more_ranges : (outer inner ranges : List Range) (i : ℕ) (parts : List Range) → i < length inner → HasRanges outer (take i inner) ranges → HasRanges outer (range_at inner i ∷ []) parts
    → HasRanges outer (take (i + 1) inner) (ranges ++ parts)
more_ranges outer inner ranges i parts at before here =
    subst (λ (xs : List Range). HasRanges outer xs (ranges ++ parts)) (sym (take_more inner i (record { at = 0; length = 0 }) at)) (both_ranges outer (take i inner) ranges (range_at inner i) parts before here)
