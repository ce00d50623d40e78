use Rattle.std.proofs.Common.{inl, refl}
use Rattle.file_acts.specs.Acts.{Then}
use Rattle.fork_saves.proofs.Steps.{then_done, then_not}
use Rattle.fork_saves.proofs.convert.convert_with.Goals as goal

pub returns-clause-does : goal.returns-clause-does
returns-clause-does c = then_done _ _ c.in_ok-new.new c.args.acts.now.events _ _ _ ((c.in_ok-new.ensures, refl)) (c.write_and_say.ensures.does)

pub returns-in_err-new-clause-does : goal.returns-in_err-new-clause-does
returns-in_err-new-clause-does c = then_not _ _ c.from_residual.result c.in_err-new.field-0.0 _ _ c.from_residual.ensures.1 (c.in_err-new.ensures, refl)
