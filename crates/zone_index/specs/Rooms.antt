-- What gaps have of free bytes, by the sums of the blocks that begin in each leaf of a zone.
use Rattle.std.specs.Prelude.{◌≡◌, ℕ, ◌-◌, ◌<◌, ◌≤◌, List, [], ◌∷◌, ◌++◌}
use Rattle.sum_tree.specs.declared.span.Span.{Span}
use Rattle.sum_tree.specs.Span.{no_span, joined, heavy, most_in}
use Rattle.sum_tree.specs.Leaves.{begun}
use Rattle.sum_tree.specs.Stale.{Stored}
use Rattle.mac_base.specs.HeadKind.{zone_header}
use Rattle.mac_base.specs.ZoneState.{ZoneState}
use Rattle.linked_zone.specs.Places.{EntryAt}
use Rattle.zone_index.specs.declared.weight.Weight.{Weight}
use Rattle.zone_index.specs.Leaves.{Summing, AreSums, AllFresh, sum_in, sum_over}
use Rattle.zone_index.specs.Weights.{most, weights}
use Rattle.zone_index.specs.Spans.{span_of}

-- what gaps have of the free bytes of one block
abbrev pub room_of : Weight → Span
room_of = span_of (λ (w : Weight). w.free)

-- these are summed up
abbrev pub summing_rooms : Summing Span
summing_rooms = record { empty = no_span; op = joined; one = room_of }

-- of many blocks
abbrev pub room_sum : List Weight → Span
room_sum = sum_over summing_rooms

-- those of the blocks that begin in a leaf
abbrev pub room_in : ZoneState → ℕ → Span
room_in = sum_in summing_rooms

-- what is kept: the sums of all leaves, of which those that aren't stale are right
pub record AreRooms (z : ZoneState) (kept : Stored Span) : Type 0 where
  pub are : AreSums summing_rooms z kept
  pub light : heavy kept.sums ≤ z.shape.limit

-- all are
pub record AreFresh (z : ZoneState) (kept : Stored Span) : Type 0 where
  pub are : AllFresh summing_rooms z kept
  pub light : heavy kept.sums ≤ z.shape.limit

-- the blocks below an address have a sum, in which no gap has room for k bytes
pub record SumsBelow (z : ZoneState) (from k : ℕ) (s : Span) : Type 0 where
  pub low : z.shape.base ≤ from
  pub sum : s ≡ room_sum (begun (λ (w : Weight). w.bytes) 0 (from - z.shape.base) zone_header (weights z.heap.table z.heap.map))
  pub few : most_in s < k

-- with the block at an address some gap has room for k bytes, and with those before none has
pub record Reaches (z : ZoneState) (k at : ℕ) : Type 0 where
  pub entry : EntryAt z at
  pub few : most (λ (w : Weight). w.free) 0 (weights z.heap.table entry.before) < k
  pub enough : k ≤ most (λ (w : Weight). w.free) 0 (weights z.heap.table (entry.before ++ entry.here ∷ []))
