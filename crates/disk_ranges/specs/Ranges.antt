-- The bytes of a disk that lie in ranges of it.
use Rattle.std.specs.Prelude.{◌≡◌, ℕ, ◌+◌, ◌^◌, ◌<◌, ◌≤◌, List, [], ◌∷◌, ◌++◌, length, Result, IfOk}
use Rattle.std.specs.List.{AllByRecursion}
use Rattle.fork_disk.specs.Disk.{bytes_at}
use Rattle.fork_disk.specs.OnDisk.{KeepsDisk}
use Rattle.disk_ranges.specs.declared.read.Range.{Range}

-- the bytes of ranges, one after another
unfoldable pub bytes_of : List Range → List ℕ → List ℕ
bytes_of [] disk = []
bytes_of (range ∷ ranges) disk = bytes_at range.length range.at disk ++ bytes_of ranges disk

-- a range lies within a disk of so many bytes
abbrev pub IsInDisk : ℕ → Range → Type 0
IsInDisk size range = range.at + range.length ≤ size

-- the end of a range fits in eight bytes
abbrev pub IsShort : Range → Type 0
IsShort range = range.at + range.length < 2 ^ 64

-- the buffer gets the bytes at this offset of the ranges
pub record ReadsRanges {D E : Type 0} (seen : D → List ℕ) (is_honest is_stable : D → Type 0) (old new : D) (ranges : List Range) (at : ℕ) (before after : List ℕ) (result : Result ℕ E) : Type 0 where
  pub keeps : KeepsDisk seen is_honest is_stable old new
  pub read : IfOk result (λ n. (n ≡ length before) × (after ≡ bytes_at (length before) at (bytes_of ranges (seen old))))

-- how many bytes ranges have
unfoldable pub total : List Range → ℕ
total [] = 0
total (range ∷ ranges) = range.length + total ranges

-- a disk with ranges of it, and how many calls were refused
pub record RangesOn (D : Type 0) : Type 0 where
  pub disk : D
  pub ranges : List Range
  pub refused : ℕ

-- The ranges end where eight bytes say, they have so many bytes, and where the disk is honest, they lie within it. This
-- is said of a disk as it is now: nothing is written, so that a disk that is honest later has the bytes that it had.
pub record LieOnDisk {D : Type 0} (seen : D → List ℕ) (is_honest : D → Type 0) (disk : D) (ranges : List Range) (size : ℕ) : Type 0 where
  pub short : AllByRecursion IsShort ranges
  pub whole : size ≡ total ranges
  pub inside : is_honest disk → AllByRecursion (IsInDisk (length (seen disk))) ranges

-- ranges lie within a disk of so many bytes, and eight bytes say where they end and how many bytes they have
pub record AreWithin (size : ℕ) (ranges : List Range) : Type 0 where
  pub short : AllByRecursion IsShort ranges
  pub few : total ranges < 2 ^ 64
  pub inside : AllByRecursion (IsInDisk size) ranges

-- On any disk that has the outer ranges, these ranges lie within it, and have the bytes that the inner ranges have of
-- what the outer ones have.
pub record HasRanges (outer inner ranges : List Range) : Type 0 where
  pub bytes : (disk : List ℕ) → AllByRecursion (IsInDisk (length disk)) outer → bytes_of ranges disk ≡ bytes_of inner (bytes_of outer disk)
  pub inside : (size : ℕ) → AllByRecursion (IsInDisk size) outer → AllByRecursion (IsInDisk size) ranges
  pub short : AllByRecursion IsShort ranges
  pub few : total ranges ≤ total inner
