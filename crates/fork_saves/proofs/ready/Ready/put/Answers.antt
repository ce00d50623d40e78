use Rattle.std.proofs.Common.{subst, sym}
use Rattle.std.specs.Prelude.{IfOk}
use Rattle.fork_saves.specs.declared.ready.Ready.{Ready}
use Rattle.fork_saves.specs.Putting.{PutsReady}
use Rattle.fork_saves.specs.Saving.{SavesReady}
use Rattle.fork_saves.proofs.ready.Ready.put.Goals as goal

pub returns-in-Output-clause-does : goal.returns-in-Output-clause-does
returns-in-Output-clause-does c = subst (λ (it : Ready). PutsReady it c.print.result c.args.acts.now.events c.print.new.acts.events) (sym c.in-Output.is) c.print.ensures.prints

pub returns-in-File-clause-does : goal.returns-in-File-clause-does
returns-in-File-clause-does c = subst (λ (it : Ready). PutsReady it c.put.result c.args.acts.now.events c.put.new.acts.events) (sym c.in-File.is) c.put.ensures.does

pub returns-in-File-clause-saves : goal.returns-in-File-clause-saves
returns-in-File-clause-saves c = λ for. subst (λ (it : Ready). IfOk c.put.result (λ done. SavesReady it c.put.new.acts.events)) (sym c.in-File.is) c.put.ensures.saves
