-- Changed sizes, where nothing moves.
use Rattle.std.specs.Prelude.{ℕ, Option, option_map}
use Rattle.mac_base.specs.HeadKind.{Shape, need}
use Rattle.mac_base.specs.Heap.{Heap, granted}
use Rattle.mac_base.specs.declared.request.Request.TheVariants.{Resize}
use Rattle.mac_base.specs.Serve.{resized_in_place}

-- n bytes for x where its block is, if they have room there
abbrev pub resized_there : Shape → ℕ → ℕ → Heap → Option Heap
resized_there s x n heap = option_map (λ m. granted (Resize x n) x m heap) (resized_in_place s (need s.heads n) x heap.map)
