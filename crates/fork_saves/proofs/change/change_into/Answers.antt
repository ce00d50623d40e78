use Rattle.std.proofs.Common.{inl, refl}
use Rattle.file_acts.specs.Acts.{Then}
use Rattle.fork_saves.proofs.Steps.{then_done, then_not}
use Rattle.fork_saves.specs.Changing.{ChangesInto, WritesOutcome}
use Rattle.fork_saves.proofs.change.change_into.Goals as goal

pub returns-in-Some-clause-does : goal.returns-in-Some-clause-does
unfolding ChangesInto WritesOutcome
returns-in-Some-clause-does c = then_done _ _ c.in_ok-changed.field-0 c.args.acts.now.events _ _ _ ((c.in_ok-changed.ensures, refl)) (rw c.in-Some.is c.write_changed.ensures.does)

pub returns-in_ok-write_output-in-None-clause-does : goal.returns-in_ok-write_output-in-None-clause-does
unfolding ChangesInto WritesOutcome
returns-in_ok-write_output-in-None-clause-does c = then_done _ _ c.in_ok-changed.field-0 c.args.acts.now.events _ _ _ ((c.in_ok-changed.ensures, refl)) (rw c.in-None.is (then_done _ _ c.in_ok-write_output-in-None.field-0 c.write_output.new.acts.events _ _ _ (c.in_ok-write_output-in-None.ensures.does) ((refl, refl))))

pub returns-in_err-write_output-in-None-clause-does : goal.returns-in_err-write_output-in-None-clause-does
unfolding ChangesInto WritesOutcome
returns-in_err-write_output-in-None-clause-does c = then_done _ _ c.in_ok-changed.field-0 c.args.acts.now.events _ _ _ ((c.in_ok-changed.ensures, refl)) (rw c.in-None.is (then_not _ _ c.from_residual-in_err-write_output-in-None.result c.in_err-write_output-in-None.field-0.0 _ _ c.from_residual-in_err-write_output-in-None.ensures.1 c.in_err-write_output-in-None.ensures.does))

pub returns-in_err-changed-clause-does : goal.returns-in_err-changed-clause-does
unfolding ChangesInto WritesOutcome
returns-in_err-changed-clause-does c = then_not _ _ c.from_residual.result c.in_err-changed.field-0.0 _ _ c.from_residual.ensures.1 (c.in_err-changed.ensures, refl)
