use Rattle.std.proofs.Common.{◌≤◌, ◌+◌, drop, length}
use Rattle.res_table.specs.Keyed.{AreInOrder}
use Rattle.res_table.proofs.FreeKeys.{AreTaken}
use Rattle.res_table.proofs.keyed.Keyed.first_free_key.Given as goal

-- the keys up to this one are taken, and for those after it the other pairs decide
abbrev pub invariant-loop-pair : goal.invariant-loop-pair
invariant-loop-pair l = AreInOrder l.pair-items × (length l.pair-items ≤ length l.self.pairs) × (l.fn.key ≤ l.free) × (l.free ≤ l.fn.key + l.pair-index)
    × AreTaken l.fn.key l.free l.self.pairs (drop l.pair-index l.pair-items)
