-- What every call keeps true of a heap.
use Rattle.std.specs.Prelude.{ℕ, ◌+◌, ◌-◌, ◌≤◌, ◌↔◌, Bool, ◌||◌, ◌==◌, IsTrue, IsFalse, Contains, nat_eq}
use Rattle.std.specs.List.{IsDistinct}
use Rattle.mac_base.specs.HeadKind.{Shape, zone_header}
use Rattle.mac_base.specs.ZoneMap.{total_size}
use Rattle.mac_base.specs.HandleTable.{is_handle}
use Rattle.mac_base.specs.Suits.{Suits, is_block_size, slots}
use Rattle.mac_base.specs.Heap.{Heap}

-- whether a zone may have so many bytes left to grow: none, or enough for a block
abbrev pub is_growth : Shape → ℕ → Bool
is_growth s n = n == 0 || is_block_size s n

-- the free slots are just the slots that aren't live, each once
pub record FreeSlots (s : Shape) (heap : Heap) : Type 0 where
  pub free : (x : ℕ) → Contains heap.free_slots x ↔ (Contains (slots s heap.map) x × IsFalse (is_handle heap.table x))
  pub once : IsDistinct nat_eq heap.free_slots

-- a heap that a zone of this shape may have
pub record Sound (s : Shape) (heap : Heap) : Type 0 where
  -- the map suits the table
  pub suits : Suits s heap.table heap.map
  -- the zone is no larger than its limit, and what it may still grow by makes a block
  pub within : zone_header + total_size heap.map ≤ s.limit
  pub growth : IsTrue (is_growth s (s.limit - (zone_header + total_size heap.map)))
  -- the slots that aren't live are free
  pub slots : FreeSlots s heap
