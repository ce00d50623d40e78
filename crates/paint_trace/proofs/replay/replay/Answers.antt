use Rattle.std.proofs.Common.{arith, refl}
use Rattle.paint_trace.proofs.LockedSteps.{other_at_first}
use Rattle.paint_trace.proofs.replay.replay.Goals as goal

pub loop-index-init : goal.loop-index-init
loop-index-init c = (
  c.requires.nothing_lent,
  λ h locked. (refl, other_at_first c.args.memory.now.shape c.args.memory.now.heap 32 c.new-handles.result h c.first_block.ensures.sound c.new-handles.ensures locked),
  omega arith,
  omega arith,
)
