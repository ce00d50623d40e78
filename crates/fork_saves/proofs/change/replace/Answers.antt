use Rattle.std.proofs.Common.{inl}
use Rattle.file_acts.specs.Acts.{Then}
use Rattle.fork_saves.proofs.Steps.{then_done, then_not}
use Rattle.fork_saves.specs.Changing.{Replaces}
use Rattle.fork_saves.proofs.change.replace.Goals as goal

pub returns-clause-does : goal.returns-clause-does
unfolding Replaces
returns-clause-does c = then_done _ _ c.in_ok-renew.field-0 c.renew.new.acts.events _ _ _ (rw c.deref.ensures.value at c.in_ok-renew.ensures.does) (c.say_after.ensures.does)

pub returns-in_err-renew-clause-does : goal.returns-in_err-renew-clause-does
unfolding Replaces
returns-in_err-renew-clause-does c = then_not _ _ c.from_residual.result c.in_err-renew.field-0.0 _ _ c.from_residual.ensures.1 (rw c.deref.ensures.value at c.in_err-renew.ensures.does)

pub returns-clause-seen : goal.returns-clause-seen
returns-clause-seen c = λ read seen. c.say_after.ensures.seen c.deref.result.now (c.in_ok-renew.ensures.saves read) (c.in_ok-renew.ensures.seen seen)
