use Rattle.std.proofs.Common.{ap, ◌∙◌}
use Rattle.std.specs.Prelude.{is_some}
use Rattle.memchr.proofs.lemmas.ValueLemmas.{FindsNeedle-value}
use Rattle.fork_find.proofs.has_bytes.Goals as goal

pub returns : goal.returns
returns c = c.is_some.ensures ∙ ap is_some (FindsNeedle-value c.args.all.now c.args.part.now c.find.result c.find.ensures)
