use Rattle.std.proofs.Common.{inl, refl}
use Rattle.file_acts.specs.Acts.{Then}
use Rattle.fork_saves.proofs.Steps.{then_done, then_not}
use Rattle.fork_saves.specs.Changing.{RenewsBy, ReplacesBy}
use Rattle.fork_saves.proofs.change.renew_by.Goals as goal

pub returns-in-Some-clause-does : goal.returns-in-Some-clause-does
unfolding RenewsBy ReplacesBy
returns-in-Some-clause-does c = then_done _ _ c.in_ok-changed.field-0 c.args.acts.now.events _ _ _ ((c.in_ok-changed.ensures, refl)) (rw c.in-Some.is c.replace.ensures.does)

pub returns-in-None-clause-does : goal.returns-in-None-clause-does
unfolding RenewsBy ReplacesBy
returns-in-None-clause-does c = then_done _ _ c.in_ok-changed.field-0 c.args.acts.now.events _ _ _ ((c.in_ok-changed.ensures, refl)) (rw c.in-None.is (refl, refl))

pub returns-in_err-changed-clause-does : goal.returns-in_err-changed-clause-does
unfolding RenewsBy ReplacesBy
returns-in_err-changed-clause-does c = then_not _ _ c.from_residual.result c.in_err-changed.field-0.0 _ _ c.from_residual.ensures.1 (c.in_err-changed.ensures, refl)
