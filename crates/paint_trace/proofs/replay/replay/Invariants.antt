use Rattle.std.proofs.Common.{◌≡◌, ℕ, ◌≤◌, []}
use Rattle.std.specs.Prelude.{IsTrue}
use Rattle.mac_base.specs.HandleTable.{is_locked, live_at}
use Rattle.paint_trace.specs.Trace.{IsOther}
use Rattle.paint_trace.proofs.replay.replay.Given as goal

-- nothing is lent, each handle that was locked is as it was, and none of the trace's, and no more steps are counted
-- than lines
abbrev pub invariant-loop-index : goal.invariant-loop-index
invariant-loop-index l = (l.memory.heap.table.lent ≡ [])
    × ((h : ℕ) → IsTrue (is_locked l.fn.memory.heap.table h) → (live_at l.memory.heap.table h ≡ live_at l.fn.memory.heap.table h) × IsOther l.handles h)
    × (l.replayed.made ≤ l.index-iterator.count)
    × (l.replayed.refused ≤ l.replayed.made)
