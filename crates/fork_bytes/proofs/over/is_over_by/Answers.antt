use Rattle.std.proofs.Common.{sym, ◌∙◌}
use Rattle.fork_bytes.proofs.Limiting.{limit_of_over, over_of_limit}
use Rattle.fork_bytes.proofs.over.is_over_by.Goals as goal

pub returns-clause-over : goal.returns-clause-over
returns-clause-over c is = over_of_limit c.args.fork.now c.args.fault c.requires (sym c.is_limit.ensures ∙ is)

pub returns-clause-known : goal.returns-clause-known
returns-clause-known c some over = c.is_limit.ensures ∙ limit_of_over c.args.fork.now c.args.fault c.requires some over
