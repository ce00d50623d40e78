use Rattle.fork_saves.proofs.Steps.{then_done, then_not}
use Rattle.fork_saves.specs.Changing.{Changes}
use Rattle.fork_saves.proofs.change.change_file.Goals as goal

pub returns-clause-does : goal.returns-clause-does
unfolding Changes
returns-clause-does c = then_done _ _ c.in_ok-source.source c.open.new.acts.events _ _ _ (c.in_ok-source.ensures.does) (c.change_source.ensures.does)

pub returns-in_err-source-clause-does : goal.returns-in_err-source-clause-does
unfolding Changes
returns-in_err-source-clause-does c = then_not _ _ c.from_residual.result c.in_err-source.field-0.0 _ _ c.from_residual.ensures.1 (c.in_err-source.ensures.does)
