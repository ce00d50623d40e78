-- Marks that go with blocks which change places.
use Rattle.std.specs.Prelude.{◌≡◌, ℕ, ◌+◌, ◌<◌, ◌≤◌, List, length, slice_index}

-- the mark at a place is after those of the n places that lie `step` places further on, which have moved down
pub record IsCarried (old new : List ℕ) (first step n : ℕ) : Type 0 where
  pub places : length new ≡ length old
  pub below : (j : ℕ) → j < first → slice_index old j ≤ slice_index new j
  pub here : slice_index old first ≤ slice_index new (first + n)
  pub others : (j : ℕ) → first ≤ j → j < first + n → slice_index old (j + step) ≤ slice_index new j
  pub above : (j : ℕ) → first + step + n ≤ j → slice_index old j ≤ slice_index new j

-- the mark after n places is before theirs, which have moved up by `step` places
pub record IsSunk (old new : List ℕ) (first step n : ℕ) : Type 0 where
  pub places : length new ≡ length old
  pub below : (j : ℕ) → j < first → slice_index old j ≤ slice_index new j
  pub here : slice_index old (first + n) ≤ slice_index new first
  pub others : (j : ℕ) → first ≤ j → j < first + n → slice_index old j ≤ slice_index new (j + step)
  pub above : (j : ℕ) → first + step + n ≤ j → slice_index old j ≤ slice_index new j
