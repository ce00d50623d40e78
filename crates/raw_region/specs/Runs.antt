-- Runs of bytes that may have been written.
use Rattle.std.specs.Prelude.{◌≡◌, ℕ, ◌≤◌, ◌<◌, ◌⊎◌, List, [], ◌∷◌, length, take, slice_index, Option, Some, None, ⊤}
use Rattle.raw_region.specs.declared.runs.Run.{Run}
use Rattle.raw_region.specs.declared.runs.Runs.{Runs}

-- a byte is in one of these runs
abbrev pub IsIn : List Run → ℕ → Type 0
IsIn [] i = ⊥
IsIn (r ∷ rs) i = ((r.start ≤ i) × (i < r.end)) ⊎ IsIn rs i

-- these runs are among the first n bytes
abbrev pub AreWithin : List Run → ℕ → Type 0
AreWithin [] n = ⊤
AreWithin (r ∷ rs) n = (r.end ≤ n) × AreWithin rs n

-- the runs that are noted
abbrev pub noted : Runs → List Run
noted rs = take rs.len rs.runs

-- what was noted stays, and the bytes of one more run are noted now
pub record Adds (old new : Runs) (run : Run) : Type 0 where
  pub stay : (i : ℕ) → IsIn (noted old) i → IsIn (noted new) i
  pub now : (i : ℕ) → run.start ≤ i → i < run.end → IsIn (noted new) i
  pub within : (n : ℕ) → run.end ≤ n → AreWithin (noted old) n → AreWithin (noted new) n

-- the first bytes from an offset on that are in some runs, up to where one of these ends; or no byte from there on is
abbrev pub IsNext : List Run → ℕ → Option Run → Type 0
IsNext rs from None = (i : ℕ) → from ≤ i → IsIn rs i → ⊥
IsNext rs from (Some next) = (from ≤ next.start) × (next.start < next.end)
    × ((i : ℕ) → next.start ≤ i → i < next.end → IsIn rs i) × ((i : ℕ) → from ≤ i → i < next.start → IsIn rs i → ⊥)

-- the bytes differ only in what is noted from those that were there first
pub record DifferIn (rs : Runs) (first bytes : List ℕ) : Type 0 where
  pub long : length bytes ≡ length first
  pub within : AreWithin (noted rs) (length bytes)
  pub others : (i : ℕ) → IsIn (noted rs) i ⊎ (slice_index bytes i ≡ slice_index first i)
