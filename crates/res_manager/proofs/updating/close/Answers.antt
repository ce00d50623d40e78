use Rattle.std.proofs.Common.{◌≡◌, ◌∙◌, Result, Ok, sym, ap, subst}
use Rattle.std.specs.Prelude.{OnOk}
use Rattle.mac_base.specs.declared.error.HostFull.{HostFull}
use Rattle.mac_base.specs.Heap.{Heap}
use Rattle.mac_base.specs.Outcomes.{Outcome}
use Rattle.res_update.specs.Changes.{rows_of}
use Rattle.res_update.specs.Updates.{Update, disposed, handles_of, update_of}
use Rattle.res_files.specs.FilesOn.{FilesOn, HonestAt}
use Rattle.res_table.specs.OpenFiles.{file_closed}
use Rattle.res_update.specs.Selected.{updated}
use Rattle.res_update.specs.declared.selection.Selection.TheVariants.{AllChanged}
use Rattle.res_manager.specs.Crash.{WorksOnFile}
use Rattle.res_manager.specs.Steps.{state_of}
use Rattle.res_update.specs.Steps.{IsSaved}
use Rattle.res_manager.proofs.ClosingFiles.{closes_refused, closes_written}
use Rattle.res_manager.proofs.Lent.{lent_disposed}
use Rattle.res_manager.proofs.WritingFiles.{update_found}
use Rattle.res_manager.proofs.updating.close.Goals as goal

pub returns-clause-lent : goal.returns-clause-lent
returns-clause-lent g c = ap (λ (heap : Heap). heap.table.lent) c.dispose_all.ensures.heap ∙ lent_disposed c.args.memory.now.shape (handles_of (rows_of c.args.number c.write_file.new.files.files)) c.args.memory.now.heap

pub returns-clause-written : goal.returns-clause-written
returns-clause-written g c = λ u is.
    let zone = c.args.memory.now in
    let on = c.args.files.now in
    let mid = c.write_file.new.files in
    let found = update_found c.args.number (updated zone.heap.table AllChanged) on.files u is in
    let number : c.args.number ≡ u.file = ap (λ (v : Update). v.file) found.is in
    closes_written g.S.ForkStore zone c.dispose_all.new.memory on mid c.close.new.self u c.in_ok-outcome.outcome
    (sym c.is_err.ensures.value ∙ c.if-is_err.false) c.dispose_all.ensures.shape
    (c.dispose_all.ensures.heap ∙ ap (λ k. disposed zone.shape (handles_of (rows_of k mid.files)) zone.heap) number)
    (c.close.ensures ∙ ap (λ k. record mid { files = file_closed k mid.files }) number)
    (c.in_ok-outcome.ensures.written u is)

pub returns-then-is_err-clause-written : goal.returns-then-is_err-clause-written
returns-then-is_err-clause-written g c = λ u is. closes_refused g.S.ForkStore c.args.memory.now c.args.files.now c.write_file.new.files u c.in_ok-outcome.outcome (sym c.is_err.ensures.value ∙ c.if-is_err.true) (c.in_ok-outcome.ensures.written u is)

pub returns-clause-saves : goal.returns-clause-saves
returns-clause-saves g c =
    let S = g.S.ForkStore in
    let update = update_of c.args.number (updated c.args.memory.now.heap.table AllChanged) c.args.files.now.files in
    let saves = c.in_ok-outcome.ensures.saves in
    let result : Result Outcome HostFull = Ok c.in_ok-outcome.outcome in
    record {
      works = subst (λ (f : FilesOn g.row.S.Denot). WorksOnFile S c.args.number update c.args.files.now.stores f.stores result) (sym c.close.ensures) saves.works;
      saved = subst (λ (f : FilesOn g.row.S.Denot). OnOk c.in_ok-outcome.outcome (IsSaved (HonestAt S.is_honest f.stores) update (state_of S.fork c.dispose_all.new.memory f))) (sym c.close.ensures) saves.saved;
    }
