use Rattle.std.proofs.Common.{◌≡◌, ◌+◌, length, drop, slice_get}
use Rattle.res_table.specs.Kinds.{expanded, places_of, ith}
use Rattle.res_table.proofs.kinds.Kinds.ith.Given as goal

-- so many of the type are left to pass over, after the runs so far
abbrev pub invariant-loop-run : goal.invariant-loop-run
invariant-loop-run l = (slice_get (places_of l.at l.kind (expanded (drop l.run-index l.run-items))) l.left ≡ ith l.i (places_of 0 l.kind (expanded l.run-items)))
    × (l.at + length (expanded (drop l.run-index l.run-items)) ≡ length (expanded l.run-items))
