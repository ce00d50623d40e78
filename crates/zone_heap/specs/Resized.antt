-- A block that gets another size, and what makes way for it.
use Rattle.std.specs.Prelude.{ℕ, Option, option_map}
use Rattle.std.specs.Option.{option_map_or}
use Rattle.mac_base.specs.declared.request.Request.TheVariants.{Resize}
use Rattle.mac_base.specs.HandleTable.{HandleTable}
use Rattle.mac_base.specs.HeadKind.{Shape, need}
use Rattle.mac_base.specs.Heap.{Heap, granted}
use Rattle.mac_base.specs.Request.{gap_to_grow}
use Rattle.mac_base.specs.Serve.{opened_for, resized_elsewhere}
use Rattle.mac_base.specs.ZoneMap.{ZoneMap}

-- the map in which the other blocks have made way for that of x, in the gap in which it can grow
abbrev pub way_made : HandleTable → ℕ → ZoneMap → ZoneMap
way_made t x m = option_map_or (opened_for t x) (gap_to_grow t x m) m

-- n bytes for x in a new place, if there is one
abbrev pub resized_away : Shape → ℕ → ℕ → Heap → Option Heap
resized_away s x n heap = option_map (λ m. granted (Resize x n) x m heap) (resized_elsewhere s heap.table (need s.heads n) x heap.map)
