-- An index of which nothing is known.
use Rattle.std.specs.Prelude.{◌≡◌, ℕ, ◌+◌, ◌/◌, length, replicate}
use Rattle.zone_index.specs.declared.index.Index.{Index}
use Rattle.zone_index.specs.Leaves.{leaf_size}
use Rattle.zone_index.specs.LeafSums.{IsNew}
use Rattle.zone_index.specs.Lengths.{TellsNothing}
use Rattle.zone_index.specs.Pages.{NoneKnownFrom, page_size}

-- it is for a zone with such a limit: there is no mark, all sums are stale, and nothing is remembered
pub record IsBlank (limit : ℕ) (i : Index) : Type 0 where
  pub marks : i.marks ≡ replicate (limit / 4 + 1) 0
  pub purgeable : i.purgeable ≡ replicate (limit / 4 + 1) 0
  pub leaves : IsNew i.leaves (limit / leaf_size + 1)
  pub places : length i.pages ≡ limit / page_size + 1
  pub unknown : NoneKnownFrom 0 i.pages
  pub lengths : TellsNothing i.lengths
