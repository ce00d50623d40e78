use Rattle.std.proofs.Common.{take}
use Rattle.fork_change.specs.Index.{HasCounted, IsIndexOf}
use Rattle.fork_change.proofs.index.index_of.Given as goal

-- the rows so far are counted, and in the index
abbrev pub invariant-loop-at : goal.invariant-loop-at
invariant-loop-at l = IsIndexOf l.index (take l.at l.rows) × HasCounted l.counts (take l.at l.rows)
