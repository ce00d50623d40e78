-- Bytes of one block that are copied over those of another.
use Rattle.std.specs.Prelude.{ℕ, ◌+◌, ◌≤◌, length, take, drop, IsTrue, IsFalse}
use Rattle.mac_base.specs.HandleTable.{has_block, is_lent, bytes_of, with_bytes}
use Rattle.mac_base.specs.Heap.{with_table}
use Rattle.mac_base.specs.ZoneState.{ZoneState, with_heap, written}

-- n bytes of one handle or pointer, from a place among them on, can be copied over as many of another: both have so
-- many, and neither is lent. It may be the same
pub record CanCopy (z : ZoneState) (from start to offset n : ℕ) : Type 0 where
  pub source : IsTrue (has_block z.heap.table from)
  pub target : IsTrue (has_block z.heap.table to)
  pub source_here : IsFalse (is_lent z.heap.table from)
  pub target_here : IsFalse (is_lent z.heap.table to)
  pub within_source : start + n ≤ length (bytes_of z.heap.table from)
  pub within_target : offset + n ≤ length (bytes_of z.heap.table to)

-- they are copied over those of the other
abbrev pub copied : ℕ → ℕ → ℕ → ℕ → ℕ → ZoneState → ZoneState
copied from start to offset n z = let t = z.heap.table in
    with_heap (with_table (with_bytes to (written offset (take n (drop start (bytes_of t from))) (bytes_of t to)) t) z.heap) z
