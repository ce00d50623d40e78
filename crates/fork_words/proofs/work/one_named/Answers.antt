use Rattle.std.proofs.Common.{rules}
use Rattle.fork_words.proofs.Colons.{last_is, none_is}
use Rattle.fork_words.proofs.work.one_named.Goals as goal

pub returns-in_default-clause-none : goal.returns-in_default-clause-none
returns-in_default-clause-none c = none_is c.args.word.now (search rules)

pub returns-in-Err-clause-none : goal.returns-in-Err-clause-none
returns-in-Err-clause-none c = last_is c.args.word.now c.in-Some.kind.now c.in-Some.id.now c.in-Some.ensures.cases c.in-Err.ensures.refused.1
