use Rattle.fork_sounds.specs.Codings.{laid_at}
use Rattle.fork_sounds.proofs.Steps.{one_more}
use Rattle.fork_sounds.proofs.samples.laid.Goals as goal

pub loop-place-preserved : goal.loop-place-preserved
loop-place-preserved c =
    one_more (laid_at c.args.layout c.args.bytes.now c.args.start) c.loop-place.place c.loop-place.samples.items c.push.new.self.items c.sample_at.result
    c.loop-place.invariant c.in_ok-push.ensures.items c.sample_at.ensures
