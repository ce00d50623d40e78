use Rattle.fork_shows.proofs.Quiet.{writes_nothing}
use Rattle.resfork.proofs.work.pack.Goals as goal

pub returns-clause-dry : goal.returns-clause-dry
returns-clause-dry c = λ dry before. c.pack_folder-2.ensures.dry dry (writes_nothing c.in-Some.name.now c.args.acts.now.events c.read.new.acts.events c.read.ensures.quiet before)
