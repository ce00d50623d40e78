use Rattle.std.proofs.Common.{sym}
use Rattle.clap.specs.Matches.{found_of}
use Rattle.fork_words.proofs.asked.asked_of.Goals as goal

pub returns-clause-asked : goal.returns-clause-asked
returns-clause-asked c = (
  c.in-Some.name.now,
  found_of c.in-Some.matches.now,
  sym c.in-Some.ensures.name,
  sym c.in-Some.ensures.rows,
  c.in_ok-limit_of.ensures,
  c.in_ok-asked_for.ensures.asked,
)
