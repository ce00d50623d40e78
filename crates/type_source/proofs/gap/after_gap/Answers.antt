use Rattle.std.proofs.Common.{suc}
use Rattle.type_source.proofs.gap.after_gap.Goals as goal

pub loop-turn-preserved : goal.loop-turn-preserved
loop-turn-preserved c =
    (suc c.loop-turn.invariant.0, (c.loop-turn.rest.now, c.loop-turn.invariant.1, rw c.in-Some.is at c.in_ok-after.ensures))
