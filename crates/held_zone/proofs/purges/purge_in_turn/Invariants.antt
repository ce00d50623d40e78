use Rattle.held_zone.proofs.FewerFull.{full_handles}
use Rattle.held_zone.proofs.InTurns.{StillEmptied}
use Rattle.held_zone.proofs.purges.purge_in_turn.Given as goal

abbrev pub invariant-loop-handle : goal.invariant-loop-handle
invariant-loop-handle l = StillEmptied l.fn.memory l.fn.purges l.call l.memory l.purges

abbrev pub decreases-loop-handle : goal.decreases-loop-handle
decreases-loop-handle l = full_handles l.memory.heap.table
