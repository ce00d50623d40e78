-- Pages that are forgotten one by one.
use Rattle.std.proofs.Common.{◌≡◌, ℕ, ◌<◌, ◌≤◌, List, length, Option, Some}
use Rattle.std.specs.Prelude.{◌⊎◌}
use Rattle.std.specs.List.{slice_get}
use Rattle.zone_index.specs.declared.sums.Sums.{Sums}

-- the pages from one on and below another are forgotten, and nothing else is new
pub record Forgotten (old new : List (Option Sums)) (first page : ℕ) : Type 0 where
  pub places : length new ≡ length old
  pub kept : (c : ℕ) (s : Sums) → slice_get new c ≡ Some (Some s) → (slice_get old c ≡ Some (Some s)) × ((c < first) ⊎ (page ≤ c))
