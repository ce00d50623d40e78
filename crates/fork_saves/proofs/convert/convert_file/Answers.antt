use Rattle.std.proofs.Common.{inl}
use Rattle.file_acts.specs.Acts.{Then}
use Rattle.fork_saves.proofs.Steps.{then_done, then_not}
use Rattle.fork_saves.proofs.convert.convert_file.Goals as goal

pub returns-clause-does : goal.returns-clause-does
returns-clause-does c = then_done _ _ c.in_ok-data.data c.data_for.new.acts.events _ _ _ (c.in_ok-data.ensures.does) (rw c.deref.ensures.value at c.convert_with.ensures.does)

pub returns-in_err-data-clause-does : goal.returns-in_err-data-clause-does
returns-in_err-data-clause-does c = then_not _ _ c.from_residual.result c.in_err-data.field-0.0 _ _ c.from_residual.ensures.1 c.in_err-data.ensures.does
