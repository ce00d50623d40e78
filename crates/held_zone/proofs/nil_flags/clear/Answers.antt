use Rattle.held_zone.proofs.NilFlags.{cleared-end}
use Rattle.held_zone.proofs.nil_flags.clear.Goals as goal

pub returns : goal.returns
returns c = cleared-end c.args.zone.now c.args.bytes.now c.loop-at.bytes c.loop-at.from c.loop-at.invariant.0 c.loop-at.invariant.1 c.in_default.ensures.none
