use Rattle.std.proofs.Common.{inl, subst, sym}
use Rattle.std.specs.Prelude.{IfOk}
use Rattle.file_acts.specs.Acts.{Then}
use Rattle.fork_saves.specs.declared.ready.Ready.{Ready}
use Rattle.fork_saves.specs.Saving.{IsWhole, SavesReady}
use Rattle.fork_saves.proofs.Steps.{then_done, then_not}
use Rattle.fork_saves.proofs.save.put_two.Goals as goal

pub returns-in-File-File-clause-does : goal.returns-in-File-File-clause-does
returns-in-File-File-clause-does c = rw (c.in-File-File.is-0, c.in-File-File.is-1) c.put_files.ensures.does

pub returns-in_ok-put-in-File-Output-clause-does : goal.returns-in_ok-put-in-File-Output-clause-does
returns-in_ok-put-in-File-Output-clause-does c = rw (c.in-File-Output.is-0, c.in-File-Output.is-1) (then_done _ _ c.in_ok-put-in-File-Output.field-0 c.put.new.acts.events _ _ _ (c.in_ok-put-in-File-Output.ensures.does) (c.print.ensures.prints))

pub returns-in_err-put-in-File-Output-clause-does : goal.returns-in_err-put-in-File-Output-clause-does
returns-in_err-put-in-File-Output-clause-does c = rw (c.in-File-Output.is-0, c.in-File-Output.is-1) (then_not _ _ c.from_residual.result c.in_err-put-in-File-Output.field-0.0 _ _ c.from_residual.ensures.1 c.in_err-put-in-File-Output.ensures.does)

pub returns-in_ok-print-in-Output-default-clause-does : goal.returns-in_ok-print-in-Output-default-clause-does
returns-in_ok-print-in-Output-default-clause-does c = rw c.in-Output-default.is-0 (then_done _ _ c.in_ok-print-in-Output-default.field-0 c.print-in-Output-default.new.acts.events _ _ _ (c.in_ok-print-in-Output-default.ensures.prints) (c.put-in-Output-default.ensures.does))

pub returns-in_err-print-in-Output-default-clause-does : goal.returns-in_err-print-in-Output-default-clause-does
returns-in_err-print-in-Output-default-clause-does c = rw c.in-Output-default.is-0 (then_not _ _ c.from_residual-in_err-print-in-Output-default.result c.in_err-print-in-Output-default.field-0.0 _ _ c.from_residual-in_err-print-in-Output-default.ensures.1 c.in_err-print-in-Output-default.ensures.prints)

pub returns-in-File-File-clause-saves : goal.returns-in-File-File-clause-saves
returns-in-File-File-clause-saves c = λ one other whole. subst (λ (it : Ready). IfOk c.put_files.result (λ done. SavesReady it c.put_files.new.acts.events)) (sym c.in-File-File.is-1)
    (c.put_files.ensures.saves (subst IsWhole c.in-File-File.is-0 whole))
