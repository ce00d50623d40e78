use Rattle.std.proofs.Common.{inl, None}
use Rattle.file_acts.specs.Acts.{Then}
use Rattle.fork_saves.proofs.Steps.{then_done, then_not}
use Rattle.fork_saves.specs.Changing.{WritesChanged}
use Rattle.fork_saves.proofs.change.write_changed.Goals as goal

pub returns-clause-does : goal.returns-clause-does
unfolding WritesChanged
returns-clause-does c = then_done _ _ c.in_ok-write_output.field-0 c.write_output.new.acts.events _ _ _ (rw c.deref.ensures.value at c.in_ok-write_output.ensures.does) (c.say.ensures.does)

pub returns-in_err-write_output-clause-does : goal.returns-in_err-write_output-clause-does
unfolding WritesChanged
returns-in_err-write_output-clause-does c = then_not _ _ c.from_residual.result c.in_err-write_output.field-0.0 _ _ c.from_residual.ensures.1 (rw c.deref.ensures.value at c.in_err-write_output.ensures.does)

pub returns-clause-dry : goal.returns-clause-dry
returns-clause-dry c = λ dry before. c.say.ensures.reads None (c.in_ok-write_output.ensures.dry dry before)

pub returns-clause-seen : goal.returns-clause-seen
returns-clause-seen c = λ for seen. c.say.ensures.seen c.deref.result.now (c.in_ok-write_output.ensures.saved for) (c.in_ok-write_output.ensures.seen for seen)
