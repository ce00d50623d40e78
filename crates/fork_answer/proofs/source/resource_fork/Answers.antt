use Rattle.std.proofs.Common.{◌∙◌, sym}
use Rattle.fork_answer.proofs.Opened.{has_fork, has_none}
use Rattle.fork_answer.proofs.source.resource_fork.Goals as goal

pub returns-then-has_fork-clause-fork : goal.returns-then-has_fork-clause-fork
returns-then-has_fork-clause-fork c = has_fork c.args.file.now c.in-Ok.found c.in-Ok.ensures.1 (sym c.has_fork.ensures ∙ c.if-has_fork.true)

pub returns-clause-none : goal.returns-clause-none
returns-clause-none c = has_none c.args.file.now c.in-Ok.found c.in-Ok.ensures.1 (sym c.has_fork.ensures ∙ c.if-has_fork.false)
