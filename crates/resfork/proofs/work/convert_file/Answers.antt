use Rattle.fork_shows.proofs.Quiet.{writes_nothing}
use Rattle.resfork.proofs.work.convert_file.Goals as goal

pub returns-clause-dry : goal.returns-clause-dry
returns-clause-dry c = λ dry before. c.convert.ensures.dry dry (writes_nothing c.args.asked.now.target.file.now c.args.acts.now.events c.read.new.acts.events c.in_ok-bytes.ensures.quiet before)
