-- The pages of a zone, and what is remembered of them. A page has the blocks that begin in it.
use Rattle.std.specs.Prelude.{◌≡◌, ℕ, ◌+◌, ◌-◌, ◌*◌, ◌/◌, ◌<◌, ◌≤◌, ◌⊎◌, List, length, Option, Some}
use Rattle.sum_tree.specs.Leaves.{begun as begun_of}
use Rattle.std.specs.List.{slice_get}
use Rattle.mac_base.specs.HeadKind.{Shape, zone_header}
use Rattle.mac_base.specs.ZoneState.{ZoneState}
use Rattle.zone_index.specs.declared.sums.Sums.{Sums}
use Rattle.zone_index.specs.declared.weight.Weight.{Weight}
use Rattle.zone_index.specs.Weights.{weights}
use Rattle.zone_index.specs.Spans.{IsSum}

-- the bytes of a page
abbrev pub page_size : ℕ
page_size = 0x1000

-- the page of an address
abbrev pub page : Shape → ℕ → ℕ
page s at = (at - s.base) / page_size

-- where a page begins, from the start of the zone
abbrev pub page_start : ℕ → ℕ
page_start c = page_size * c

-- those of these blocks that begin from one place on and below another, where the first begins at a third
abbrev pub begun : ℕ → ℕ → ℕ → List Weight → List Weight
begun = begun_of (λ (w : Weight). w.bytes)

-- the blocks that begin in a page
abbrev pub page_weights : ZoneState → ℕ → List Weight
page_weights z c = begun (page_start c) (page_start (c + 1)) zone_header (weights z.heap.table z.heap.map)

-- what is remembered of pages are their sums
pub record ArePages (z : ZoneState) (pages : List (Option Sums)) : Type 0 where
  pub places : length pages ≡ z.shape.limit / page_size + 1
  pub known : (c : ℕ) (s : Sums) → slice_get pages c ≡ Some (Some s) → IsSum (page_weights z c) s

-- the pages from one to another are forgotten, and nothing else is new
pub record Forgets (old new : List (Option Sums)) (first last : ℕ) : Type 0 where
  pub places : length new ≡ length old
  pub kept : (c : ℕ) (s : Sums) → slice_get new c ≡ Some (Some s) → (slice_get old c ≡ Some (Some s)) × ((c < first) ⊎ (last < c))

-- nothing is remembered of the pages from one on
abbrev pub NoneKnownFrom : ℕ → List (Option Sums) → Type 0
NoneKnownFrom end pages = (c : ℕ) (s : Sums) → end ≤ c → slice_get pages c ≡ Some (Some s) → ⊥
