-- The sectors of a raw CD, one after another.
use Rattle.std.proofs.Common.{◌≡◌, ℕ, zero, suc, ◌+◌, ◌*◌, ◌^◌, ◌<◌, ◌≤◌, List, [], ◌∷◌, ◌++◌, refl, sym, arith}
use Rattle.std.proofs.lemmas.List.{append_assoc, append-nil}
use Rattle.std.specs.List.{AllByRecursion}
use Rattle.disk_ranges.specs.declared.read.Range.{Range}
use Rattle.disk_ranges.specs.Ranges.{total, IsInDisk, IsShort, AreWithin}
use Rattle.disk_image.specs.Devices.{sectors}

-- one more
pub sector_more : (ranges : List Range) (head sector left more : ℕ) → left ≡ suc more
    → ranges ++ sectors head sector left ≡ (ranges ++ record { at = 2352 * sector + head; length = 2048 } ∷ []) ++ sectors head (sector + 1) more
unfolding sectors
sector_more ranges head sector left more some =
    rw some (sym (append_assoc ranges (record { at = 2352 * sector + head; length = 2048 } ∷ []) (sectors head (sector + 1) more)))

-- and none after the last
pub no_sector : (ranges : List Range) (head sector left : ℕ) → left ≡ 0 → ranges ++ sectors head sector left ≡ ranges
unfolding sectors
no_sector ranges head sector left none = rw none (append-nil ranges)

-- they lie within the file
are_short : (head sector count : ℕ) → head ≤ 304 → 2352 * (sector + count) < 2 ^ 64 → AllByRecursion IsShort (sectors head sector count)
unfolding sectors
are_short head sector zero inside low = tt
are_short head sector (suc more) inside low = (omega (arith, inside, low), are_short head (sector + 1) more inside (omega (arith, low)))

are_inside : (size head sector count : ℕ) → head ≤ 304 → 2352 * (sector + count) ≤ size → AllByRecursion (IsInDisk size) (sectors head sector count)
unfolding sectors
are_inside size head sector zero inside there = tt
are_inside size head sector (suc more) inside there = (omega (arith, inside, there), are_inside size head (sector + 1) more inside (omega (arith, there)))

pub sectors_total : (head sector count : ℕ) → total (sectors head sector count) ≡ 2048 * count
unfolding sectors total
sectors_total head sector zero = refl
sectors_total head sector (suc more) = let rest = sectors_total head (sector + 1) more in omega (arith, rest)

pub sectors_within : (size head count : ℕ) → head ≤ 304 → 2352 * count ≤ size → size < 2 ^ 64 → AreWithin size (sectors head 0 count)
sectors_within size head count inside there low =
    let all = sectors_total head 0 count in
    record {
      short = are_short head 0 count inside (omega (arith, there, low));
      few = omega (arith, all, there, low);
      inside = are_inside size head 0 count inside (omega (arith, there));
    }
