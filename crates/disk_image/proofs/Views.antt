-- The bytes of views.
use Rattle.std.proofs.Common.{◌≡◌, ℕ, zero, suc, ◌+◌, ◌-◌, ◌^◌, ◌<◌, ◌≤◌, ◌⊎◌, inl, inr, min, List, [], ◌∷◌, ◌++◌, length, take, drop, replicate, refl, sym, ap, ◌∙◌, arith}
use Rattle.std.proofs.lemmas.Bool.{le-leb, lt-leb, cases_lt}
use Rattle.std.proofs.lemmas.List.{append-nil, get_or-drop, take_min, take_all, length-drop, length-take-le, length-replicate, at_drop_all}
use Rattle.std.specs.List.{AllByRecursion}
use Rattle.byteorder.specs.Endian.{big_from}
use Rattle.byteorder.specs.Numbers.{big_from-append, big_from-take}
use Rattle.fork_disk.specs.Disk.{bytes_at}
use Rattle.disk_ranges.specs.declared.read.Range.{Range}
use Rattle.disk_ranges.specs.Ranges.{bytes_of, total, IsInDisk, AreWithin, HasRanges}
use Rattle.disk_ranges.proofs.Whole.{length_is}
use Rattle.disk_image.specs.declared.view.View.{View}
use Rattle.disk_image.specs.Devices.{IsView, bytes_in, whole_of}
use Rattle.disk_image.specs.Known.{number_at}

-- how many bytes a view has
pub view_length : (view : View) (file : List ℕ) → IsView view → view.file ≡ length file → length (bytes_in view file) ≡ view.size
view_length view file is same = length_is view.ranges.items file (rw same at is.within.inside) ∙ sym is.whole

-- a number after bytes that are left out
pub big_from-drop : (i n k : ℕ) (xs : List ℕ) → big_from i n (drop k xs) ≡ big_from (k + i) n xs
big_from-drop i zero k xs = refl
big_from-drop i (suc n) k xs =
    let byte = get_or-drop k xs i 0 in
    let rest = big_from-drop (suc i) n k xs in
    let on : k + suc i ≡ suc (k + i) = omega arith in
    rw (byte, rest, on) refl

-- the number at the beginning of the bytes that were read at a place
pub number_is : (count at : ℕ) (xs rest file : List ℕ) → xs ≡ bytes_at count at file → at + count ≤ length file → big_from 0 count (xs ++ rest) ≡ number_at count at file
unfolding number_at
number_is count at xs rest file is there =
    let left = length-drop at file in
    let long : length (bytes_at count at file) ≡ count = length-take-le count (drop at file) (omega (arith, left, there)) in
    let all : length xs ≡ count = ap (λ (ys : List ℕ). length ys) is ∙ long in
    let none : at + 0 ≡ at = omega arith in
    big_from-append count xs rest (omega (arith, all))
    ∙ ap (big_from 0 count) is
    ∙ big_from-take 0 count count (drop at file) (omega arith)
    ∙ big_from-drop 0 count at file
    ∙ ap (λ (k : ℕ). big_from k count file) none
    ∙ rw (le-leb (at + count) (length file) there) refl

-- which is 0 where the bytes end before it does
pub no_number : (count at : ℕ) (file : List ℕ) → length file < at + count → 0 ≡ number_at count at file
unfolding number_at
no_number count at file short = rw (lt-leb (at + count) (length file) short) refl

-- what makes a view
pub view_is : (view : View) (ranges : List Range) → view.ranges.items ≡ ranges → AreWithin view.file ranges → view.size ≡ total ranges → IsView view
view_is view ranges are within whole = record { within = rw are within; whole = rw are whole }

-- all bytes of a file
pub whole_is : (size : ℕ) (file : List ℕ) → size ≡ length file → bytes_of (whole_of size) file ≡ file
unfolding bytes_of
whole_is size file all = append-nil (bytes_at size 0 file) ∙ take_all size file (omega (arith, all))

pub whole_within : (size : ℕ) → size < 2 ^ 64 → AreWithin size (whole_of size)
unfolding total
whole_within size low = record { short = (omega (arith, low), tt); few = omega (arith, low); inside = (omega arith, tt) }

pub whole_total : (size : ℕ) → size ≡ total (whole_of size)
unfolding total
whole_total size = omega arith

-- the bytes at a place, as far as there are
pub part_bytes : (size at count start part : ℕ) (bytes : List ℕ) → length bytes ≡ size → start ≡ min at size → part ≡ min count (size - start) → bytes_at part start bytes ≡ bytes_at count at bytes
part_bytes size at count start part bytes long begins ends =
    let left = length-drop at bytes in
    let same : part ≡ min count (length (drop at bytes)) = omega (arith, left, long, begins, ends) in
    from (cases_lt at size) ∙ ap (λ (k : ℕ). take k (drop at bytes)) same ∙ take_min count (drop at bytes)
  where
    from : ((at < size) ⊎ (size ≤ at)) → bytes_at part start bytes ≡ bytes_at part at bytes
    from (inl less) = let here : start ≡ at = omega (arith, begins, less) in ap (λ (k : ℕ). bytes_at part k bytes) here
    from (inr past) =
        let here : start ≡ size = omega (arith, begins, past) in
        ap (λ (k : ℕ). bytes_at part k bytes) here
        ∙ at_drop_all (λ xs. take part xs) bytes size (omega (arith, long))
        ∙ sym (at_drop_all (λ xs. take part xs) bytes at (omega (arith, long, past)))

-- a part of a view is a view
pub part_view : (view : View) (ranges : List Range) (at part : ℕ) → IsView view → at + part ≤ view.size → HasRanges view.ranges.items (record { at = at; length = part } ∷ []) ranges
    → AreWithin view.file ranges × (part ≡ total ranges)
unfolding bytes_of total
part_view view ranges at part is inside has =
    let disk : List ℕ = replicate view.file 0 in
    let long : length disk ≡ view.file = length-replicate view.file 0 in
    let there : AllByRecursion (IsInDisk (length disk)) view.ranges.items = rw (sym long) at is.within.inside in
    let outer : length (bytes_of view.ranges.items disk) ≡ view.size = length_is view.ranges.items disk there ∙ sym is.whole in
    let left = length-drop at (bytes_of view.ranges.items disk) in
    let here : length (bytes_at part at (bytes_of view.ranges.items disk)) ≡ part = length-take-le part (drop at (bytes_of view.ranges.items disk)) (omega (arith, left, outer, inside)) in
    let same = ap (λ (xs : List ℕ). length xs) (has.bytes disk there ∙ append-nil (bytes_at part at (bytes_of view.ranges.items disk))) in
    let all = length_is ranges disk (has.inside (length disk) there) in
    let few = has.few in (
      record { short = has.short; few = omega (arith, few, inside); inside = has.inside view.file is.within.inside },
      sym here ∙ sym same ∙ all,
    )

pub part_is : (view : View) (file : List ℕ) (ranges : List Range) (at count start part : ℕ) → IsView view → view.file ≡ length file → start ≡ min at view.size
    → part ≡ min count (view.size - start) → HasRanges view.ranges.items (record { at = start; length = part } ∷ []) ranges
    → bytes_of ranges file ≡ bytes_at count at (bytes_in view file)
unfolding bytes_of
part_is view file ranges at count start part is same begins ends has =
    let there = rw same at is.within.inside in
    has.bytes file there ∙ append-nil (bytes_at part start (bytes_in view file))
    ∙ part_bytes view.size at count start part (bytes_in view file) (view_length view file is same) begins ends
