use Rattle.fork_shows.proofs.Quiet.{writes_nothing}
use Rattle.resfork.proofs.texts.put_text.Goals as goal

pub returns-in_err-source-clause-dry : goal.returns-in_err-source-clause-dry
returns-in_err-source-clause-dry c = λ dry before. c.open.ensures.dry dry (writes_nothing c.args.asked.target.file.now c.args.acts.now.events c.check_outside.new.acts.events c.check_outside.ensures.quiet before)

pub returns-clause-dry : goal.returns-clause-dry
returns-clause-dry c = λ dry before. c.put_in.ensures.dry dry (c.open.ensures.dry dry (writes_nothing c.args.asked.target.file.now c.args.acts.now.events c.check_outside.new.acts.events c.check_outside.ensures.quiet before))
