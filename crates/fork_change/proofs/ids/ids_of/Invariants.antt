use Rattle.std.proofs.Common.{take}
use Rattle.fork_change.specs.Index.{HasIds}
use Rattle.fork_change.proofs.ids.ids_of.Given as goal

-- those of the rows so far are there
abbrev pub invariant-loop-at : goal.invariant-loop-at
invariant-loop-at l = HasIds l.ids (take l.at l.rows)
