use Rattle.std.proofs.Common.{inl, sym, ◌∙◌}
use Rattle.std.proofs.lemmas.Result.{IfOk-weaker}
use Rattle.file_acts.specs.Acts.{Then}
use Rattle.fork_saves.specs.Saving.{SavesReady}
use Rattle.fork_saves.proofs.Steps.{then_done, then_not}
use Rattle.fork_saves.specs.Putting.{Saves}
use Rattle.fork_saves.proofs.save.put_ready.Goals as goal

pub returns-clause-does : goal.returns-clause-does
unfolding Saves
returns-clause-does c = then_done _ _ c.in_ok-new.field-0 c.new.new.acts.events _ _ _ (c.in_ok-new.ensures.does) (c.put.ensures.does)

pub returns-in_err-new-clause-does : goal.returns-in_err-new-clause-does
unfolding Saves
returns-in_err-new-clause-does c = then_not _ _ c.from_residual.result c.in_err-new.field-0.0 _ _ c.from_residual.ensures.1 c.in_err-new.ensures.does

pub returns-clause-saves : goal.returns-clause-saves
returns-clause-saves c = λ named. IfOk-weaker c.put.result (λ done. SavesReady c.in_ok-new.field-0 c.put.new.acts.events) _
    (λ done saves. saves c.args.bytes.now c.in_ok-new.ensures.whole) (c.put.ensures.saves (λ is. named (sym c.in_ok-new.ensures.path ∙ is)))
