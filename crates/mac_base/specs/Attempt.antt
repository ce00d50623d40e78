-- One attempt to serve a request in the zone as it is.
use Rattle.std.specs.Prelude.{ℕ, Option, option_map}
use Rattle.mac_base.specs.declared.request.Request.{Request}
use Rattle.mac_base.specs.HeadKind.{Shape}
use Rattle.mac_base.specs.ZoneMap.{ZoneMap}
use Rattle.mac_base.specs.Serve.{serve}
use Rattle.mac_base.specs.Heap.{Heap, front_slot, granted}

-- the number that the request gives and the heap then, where it fits
abbrev pub attempted : Shape → Request → Heap → Option (ℕ × Heap)
attempted s r heap = option_map (λ (found : ℕ × ZoneMap). (found.0, granted r found.0 found.1 heap)) (serve s heap.table (front_slot heap) heap.map r)
