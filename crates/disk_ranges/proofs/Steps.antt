-- What one range has of the bytes that are wanted.
use Rattle.std.proofs.Common.{◌≡◌, ℕ, zero, suc, ◌+◌, ◌-◌, ◌<◌, ◌≤◌, ◌⊎◌, inl, inr, List, [], ◌∷◌, ◌++◌, length, take, drop, get_or, min, sym, ap, ◌∙◌, arith}
use Rattle.std.proofs.lemmas.List.{length-take-le, length-drop, length-append, drop-take, drop-drop, take-take, take-append-le, drop-append-le, append-nil, at_drop_more, at_drop_all, append_assoc, take_all}
use Rattle.std.proofs.lemmas.Slice.{take-put_mid}
use borrow.Rule.Slice.PartMut.{put_mid}
use Rattle.std.specs.List.{AllByRecursion}
use Rattle.std.proofs.lemmas.Bool.{cases_lt}
use lib.Seq.{take-append-add, drop-append-add}
use Rattle.fork_disk.specs.Disk.{bytes_at}
use Rattle.disk_ranges.specs.declared.read.Range.{Range}
use Rattle.disk_ranges.specs.Ranges.{bytes_of, IsInDisk}

-- a range within the disk has as many bytes as it says
pub range_length : (range : Range) (disk : List ℕ) → IsInDisk (length disk) range → length (bytes_at range.length range.at disk) ≡ range.length
range_length range disk inside = let rest = length-drop range.at disk in length-take-le range.length (drop range.at disk) (omega (arith, rest))

-- what is wanted is after this range
pub skips : (range : Range) (ranges : List Range) (disk : List ℕ) (skipped n : ℕ) → IsInDisk (length disk) range → range.length ≤ skipped
    → bytes_at n skipped (bytes_of (range ∷ ranges) disk) ≡ bytes_at n (skipped - range.length) (bytes_of ranges disk)
unfolding bytes_of
skips range ranges disk skipped n inside past =
    let xs = bytes_at range.length range.at disk in
    let long = range_length range disk inside in
    let on : skipped ≡ length xs + (skipped - range.length) = omega (arith, long) in
    ap (λ (k : ℕ). take n (drop k (xs ++ bytes_of ranges disk))) on ∙ ap (take n) (drop-append-add xs (bytes_of ranges disk) (skipped - range.length))

-- what is left of a range after those of its bytes that are skipped
left_of : (range : Range) (disk : List ℕ) (skipped : ℕ) → skipped < range.length → drop skipped (bytes_at range.length range.at disk) ≡ bytes_at (range.length - skipped) (range.at + skipped) disk
left_of range disk skipped within =
    let on : range.length ≡ skipped + (range.length - skipped) = omega arith in
    ap (λ (k : ℕ). drop skipped (take k (drop range.at disk))) on
    ∙ drop-take skipped (range.length - skipped) (drop range.at disk)
    ∙ ap (take (range.length - skipped)) (drop-drop skipped range.at disk)

-- this range has some of what is wanted, and the ranges after it the rest
pub reads : (range : Range) (ranges : List Range) (disk : List ℕ) (skipped n count : ℕ) → IsInDisk (length disk) range → skipped < range.length → count ≡ min n (range.length - skipped)
    → bytes_at n skipped (bytes_of (range ∷ ranges) disk) ≡ bytes_at count (range.at + skipped) disk ++ bytes_at (n - count) 0 (bytes_of ranges disk)
unfolding bytes_of
reads range ranges disk skipped n count inside within is =
    front ∙ by_case (cases_lt (range.length - skipped) n)
  where
    rest : List ℕ
    rest = bytes_of ranges disk

    left : List ℕ
    left = bytes_at (range.length - skipped) (range.at + skipped) disk

    long : length left ≡ range.length - skipped
    long = let whole = length-drop (range.at + skipped) disk in length-take-le (range.length - skipped) (drop (range.at + skipped) disk) (omega (arith, whole))

    front : bytes_at n skipped (bytes_at range.length range.at disk ++ rest) ≡ take n (left ++ rest)
    front = let whole = range_length range disk inside in ap (take n) (drop-append-le skipped (bytes_at range.length range.at disk) rest (omega (arith, whole)) ∙ ap (λ (xs : List ℕ). xs ++ rest) (left_of range disk skipped within))

    by_case : ((range.length - skipped) < n) ⊎ (n ≤ (range.length - skipped)) → take n (left ++ rest) ≡ bytes_at count (range.at + skipped) disk ++ bytes_at (n - count) 0 rest
    by_case (inl more) =
        let this : count ≡ range.length - skipped = omega arith in
        let on : n ≡ length left + (n - count) = omega (arith, long) in
        ap (λ (k : ℕ). take k (left ++ rest)) on ∙ take-append-add left rest (n - count) ∙ ap (λ (k : ℕ). bytes_at k (range.at + skipped) disk ++ take (n - count) rest) (sym this)
    by_case (inr enough) =
        let this : count ≡ n = omega arith in
        let none : n - count ≡ 0 = omega arith in
        take-append-le n left rest (omega (arith, long)) ∙ take-take n (range.length - skipped) (drop (range.at + skipped) disk) enough
        ∙ ap (λ (k : ℕ). bytes_at k (range.at + skipped) disk) (sym this) ∙ sym (append-nil _) ∙ ap (λ (k : ℕ). bytes_at count (range.at + skipped) disk ++ take k rest) (sym none)

-- the range at an index
abbrev pub range_at : List Range → ℕ → Range
range_at ranges i = get_or ranges i (record { at = 0; length = 0 })

-- what is wanted is after the range at an index
pub skips_at : (ranges : List Range) (i : ℕ) (disk : List ℕ) (skipped n : ℕ) → i < length ranges → IsInDisk (length disk) (range_at ranges i) → (range_at ranges i).length ≤ skipped
    → bytes_at n (skipped - (range_at ranges i).length) (bytes_of (drop (i + 1) ranges) disk) ≡ bytes_at n skipped (bytes_of (drop i ranges) disk)
skips_at ranges i disk skipped n at inside past =
    sym (at_drop_more (λ rs. bytes_at n skipped (bytes_of rs disk)) ranges i (record { at = 0; length = 0 }) at ∙ skips (range_at ranges i) (drop (i + 1) ranges) disk skipped n inside past)

-- the ranges from an index on have the bytes of the one there, and those of the others
pub length_at : (ranges : List Range) (i : ℕ) (disk : List ℕ) → i < length ranges → IsInDisk (length disk) (range_at ranges i)
    → length (bytes_of (drop i ranges) disk) ≡ (range_at ranges i).length + length (bytes_of (drop (i + 1) ranges) disk)
unfolding bytes_of
length_at ranges i disk at inside =
    let first = range_at ranges i in
    at_drop_more (λ rs. length (bytes_of rs disk)) ranges i (record { at = 0; length = 0 }) at
    ∙ length-append (bytes_at first.length first.at disk) (bytes_of (drop (i + 1) ranges) disk)
    ∙ ap (λ (k : ℕ). k + length (bytes_of (drop (i + 1) ranges) disk)) (range_length first disk inside)

-- the range at an index has some of what is wanted
pub reads_at : (ranges : List Range) (i : ℕ) (disk : List ℕ) (skipped n count : ℕ) → i < length ranges → IsInDisk (length disk) (range_at ranges i) → skipped < (range_at ranges i).length
    → count ≡ min n ((range_at ranges i).length - skipped)
    → bytes_at count ((range_at ranges i).at + skipped) disk ++ bytes_at (n - count) 0 (bytes_of (drop (i + 1) ranges) disk) ≡ bytes_at n skipped (bytes_of (drop i ranges) disk)
reads_at ranges i disk skipped n count at inside within is =
    sym (at_drop_more (λ rs. bytes_at n skipped (bytes_of rs disk)) ranges i (record { at = 0; length = 0 }) at ∙ reads (range_at ranges i) (drop (i + 1) ranges) disk skipped n count inside within is)

-- a range at an index has what all have
pub each_at : (P : Range → Type 0) (ranges : List Range) (i : ℕ) → i < length ranges → AllByRecursion P ranges → P (range_at ranges i)
each_at P [] i at all = absurd (omega arith)
each_at P (r ∷ rs) zero at all = all.0
each_at P (r ∷ rs) (suc i) at all = each_at P rs i (omega arith) all.1

-- a read of the range at an index fills on
pub reads_on : (ranges : List Range) (i : ℕ) (disk : List ℕ) (skipped filled count k : ℕ) (old new part wanted : List ℕ) → i < length ranges → IsInDisk (length disk) (range_at ranges i)
    → skipped < (range_at ranges i).length → count ≡ min (length old - filled) ((range_at ranges i).length - skipped) → filled ≤ length old → length new ≡ length old
    → new ≡ put_mid filled k old part → part ≡ bytes_at count ((range_at ranges i).at + skipped) disk → length part ≡ count
    → take filled old ++ bytes_at (length old - filled) skipped (bytes_of (drop i ranges) disk) ≡ wanted
    → take (filled + count) new ++ bytes_at (length new - (filled + count)) 0 (bytes_of (drop (i + 1) ranges) disk) ≡ wanted
reads_on ranges i disk skipped filled count k old new part wanted at inside past is within long is_new part_is part_long so_far =
    let n = length old - filled in
    let rest = bytes_of (drop (i + 1) ranges) disk in
    let left : length new - (filled + count) ≡ n - count = omega (arith, long) in
    let front : take (filled + count) new ≡ take filled old ++ part =
    ap (take (filled + count)) is_new ∙ take-put_mid filled k old part (filled + count) (omega (arith, part_long)) within in
    ap (λ (m : ℕ). take (filled + count) new ++ bytes_at m 0 rest) left
    ∙ ap (λ (xs : List ℕ). xs ++ bytes_at (n - count) 0 rest) front
    ∙ append_assoc (take filled old) part (bytes_at (n - count) 0 rest)
    ∙ ap (λ (xs : List ℕ). take filled old ++ (xs ++ bytes_at (n - count) 0 rest)) part_is
    ∙ ap (λ (xs : List ℕ). take filled old ++ xs) (reads_at ranges i disk skipped n count at inside past is)
    ∙ so_far

-- after the last range all is filled
pub ends : (ranges : List Range) (i : ℕ) (disk : List ℕ) (skipped filled : ℕ) (buffer wanted : List ℕ) → length ranges ≤ i → filled ≤ length buffer
    → skipped + (length buffer - filled) ≤ length (bytes_of (drop i ranges) disk)
    → take filled buffer ++ bytes_at (length buffer - filled) skipped (bytes_of (drop i ranges) disk) ≡ wanted
    → (filled ≡ length buffer) × (buffer ≡ wanted)
unfolding bytes_of
ends ranges i disk skipped filled buffer wanted past within room is =
    let none : length (bytes_of (drop i ranges) disk) ≡ 0 = at_drop_all (λ rs. length (bytes_of rs disk)) ranges i past in
    let full : filled ≡ length buffer = omega (arith, none, room, within) in
    let no : length buffer - filled ≡ 0 = omega (arith, full) in
    (full, sym (take_all filled buffer (omega (arith, full))) ∙ sym (append-nil _) ∙ sym (ap (λ (k : ℕ). take filled buffer ++ bytes_at k skipped (bytes_of (drop i ranges) disk)) no) ∙ is)
