use Rattle.fork_shows.proofs.Quiet.{writes_nothing}
use Rattle.resfork.proofs.work.put_into.Goals as goal

pub returns-clause-dry : goal.returns-clause-dry
returns-clause-dry c = λ dry before. c.put_outside.ensures.dry dry (writes_nothing c.args.target.now.file.now c.args.acts.now.events c.check_outside.new.acts.events c.check_outside.ensures.quiet before)
