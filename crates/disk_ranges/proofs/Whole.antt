-- How many bytes ranges have.
use Rattle.std.proofs.Common.{◌≡◌, ℕ, ◌+◌, ◌<◌, ◌≤◌, List, [], ◌∷◌, length, drop, sym, subst, refl, ◌∙◌, arith}
use Rattle.std.proofs.lemmas.List.{length-append, at_drop_more, at_drop_all}
use Rattle.std.specs.List.{AllByRecursion}
use Rattle.fork_disk.specs.Disk.{bytes_at}
use Rattle.disk_ranges.specs.declared.read.Range.{Range}
use Rattle.disk_ranges.specs.Ranges.{bytes_of, total, IsInDisk}
use Rattle.disk_ranges.proofs.Steps.{range_at, range_length}

-- the ranges from an index on have as many bytes as the one there and the others
pub total_at : (ranges : List Range) (i : ℕ) → i < length ranges → (range_at ranges i).length + total (drop (i + 1) ranges) ≡ total (drop i ranges)
unfolding total
total_at ranges i at = sym (at_drop_more total ranges i (record { at = 0; length = 0 }) at)

-- and after the last there is none
pub total_end : (ranges : List Range) (i : ℕ) → length ranges ≤ i → total (drop i ranges) ≡ 0
unfolding total
total_end ranges i past = at_drop_all total ranges i past

-- ranges within a disk have as many bytes as they say
pub length_is : (ranges : List Range) (disk : List ℕ) → AllByRecursion (IsInDisk (length disk)) ranges → length (bytes_of ranges disk) ≡ total ranges
unfolding bytes_of total
length_is [] disk all = refl
length_is (range ∷ ranges) disk all =
    let first = range_length range disk all.0 in
    let rest = length_is ranges disk all.1 in
    length-append (bytes_at range.length range.at disk) (bytes_of ranges disk) ∙ omega (arith, first, rest)

-- what the range at an index and those after it have, those from there on have
pub all_at : (P : Range → Type 0) (ranges : List Range) (i : ℕ) → i < length ranges → P (range_at ranges i) → AllByRecursion P (drop (i + 1) ranges) → AllByRecursion P (drop i ranges)
all_at P ranges i at here rest = subst (AllByRecursion P) (sym (at_drop_more (λ rs. rs) ranges i (record { at = 0; length = 0 }) at)) (here, rest)

-- there is none after the last
pub all_end : (P : Range → Type 0) (ranges : List Range) (i : ℕ) → length ranges ≤ i → AllByRecursion P (drop i ranges)
all_end P ranges i past = subst (AllByRecursion P) (sym (at_drop_all (λ rs. rs) ranges i past)) tt
