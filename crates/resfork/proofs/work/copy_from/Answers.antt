use Rattle.fork_shows.proofs.Quiet.{writes_nothing}
use Rattle.resfork.proofs.work.copy_from.Goals as goal

pub returns-clause-dry : goal.returns-clause-dry
returns-clause-dry c = λ dry before. c.copy_in.ensures.dry dry (writes_nothing c.args.asked.now.from.now c.args.acts.now.events c.read.new.acts.events c.read.ensures.quiet before)
