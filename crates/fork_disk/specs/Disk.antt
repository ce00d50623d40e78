-- What the calls of a disk do to its bytes, whole or in part, and how its failures are counted.
use Rattle.std.specs.Prelude.{◌≡◌, ℕ, ◌+◌, ◌-◌, ◌^◌, ◌<◌, ◌≤◌, ◌⊎◌, min, max, List, ◌++◌, length, take, drop, Result, MatchResult}

-- n bytes at an offset
abbrev pub bytes_at : ℕ → ℕ → List ℕ → List ℕ
bytes_at n at bytes = take n (drop at bytes)

-- what is there once these bytes are put at this offset, over what was there and past the end
abbrev pub put_at : ℕ → List ℕ → List ℕ → List ℕ
put_at at bytes old = take at old ++ bytes ++ drop (at + length bytes) old

-- A write of n bytes, done in part: any bytes in its range and past the old end, the same elsewhere, and a length from
-- the old to the new.
pub record Torn (at n : ℕ) (old new : List ℕ) : Type 0 where
  pub before : take at new ≡ take at old
  pub after : drop (at + n) new ≡ drop (at + n) old
  pub no_shorter : length old ≤ length new
  pub no_longer : length new ≤ max (length old) (at + n)

-- A cut to n bytes, done in part: the same bytes before n, any bytes after, and a length from the old to the new. What
-- is shorter already stays.
pub record CutShort (n : ℕ) (old new : List ℕ) : Type 0 where
  pub before : take n new ≡ take n old
  pub no_shorter : min n (length old) ≤ length new
  pub no_longer : length new ≤ length old

-- the count of failures rose, or is at the last value of a u64, which counts as risen
abbrev pub Rose : ℕ → ℕ → Type 0
Rose before now = (before < now) ⊎ ((before ≡ now) × (2 ^ 64 - 1 ≤ now))

-- the count of failures rose where the call failed, and only there
abbrev pub Counts : {T E : Type 0} → ℕ → ℕ → Result T E → Type 0
Counts before now result = MatchResult result (λ _. now ≡ before) (λ _. Rose before now)
