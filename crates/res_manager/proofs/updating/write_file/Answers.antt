use Rattle.res_manager.proofs.LeavingForks.{saves_fork}
use Rattle.std.proofs.Common.{◌≡◌, ◌∙◌, subst, sym, ap, refl, Err, Some}
use Rattle.std.proofs.lemmas.Result.{err_from_is_err_and}
use Rattle.res_manager.proofs.Faults.{coded, uncoded}
use Rattle.mac_base.specs.HandleTable.{HandleTable}
use Rattle.fork_disk.specs.declared.store.ReplaceFault.{ReplaceFault}
use Rattle.res_files.specs.FilesOn.{HonestAt}
use Rattle.res_manager.specs.Steps.{state_of}
use Rattle.res_update.specs.Steps.{IsSaved}
use Rattle.res_update.specs.Selected.{updated}
use Rattle.res_update.specs.declared.fault.UpdateFault.TheVariants.{Device}
use Rattle.res_update.specs.Updates.{Update, update_of}
use Rattle.res_manager.proofs.ReadingBack.{saved_update}
use Rattle.res_manager.proofs.WritingFiles.{UpdateOf, true_unless, update_found, writes_all, writes_faulted, writes_nothing}
use Rattle.res_manager.proofs.updating.write_file.Goals as goal
use Rattle.res_manager.proofs.updating.write_file.Goals.{After-zone-contents}

-- the table that the file has, of which the update is
table_found : (g : _) (c : After-zone-contents g) (u : Update) → update_of c.args.number (updated c.args.memory.now.heap.table c.args.selection) c.args.files.now.files ≡ Some u
    → UpdateOf c.args.number (updated c.zone-contents.result c.args.selection) c.args.files.now.files u
table_found g c u is =
    let Q : HandleTable → Type 0 = λ table. update_of c.args.number (updated table c.args.selection) c.args.files.now.files ≡ Some u in
    update_found c.args.number (updated c.zone-contents.result c.args.selection) c.args.files.now.files u (subst Q (sym c.zone-contents.ensures) is)

pub returns-in-Ok-clause-written : goal.returns-in-Ok-clause-written
returns-in-Ok-clause-written g c = λ u is.
    let f = table_found g (goal.at.returns-in-Ok-clause-written g c).After-zone-contents u is in
    let rows = rw f.there at c.in-Ok.ensures.rows in
    let big = rw f.there at c.in-Ok.ensures.too_big in
    rw (← f.is) (writes_all g.S.ForkStore c.args.memory.now c.args.files.now c.update.new.self _ c.update.ensures.loads c.update.ensures.count c.update.ensures.others (true_unless _ (λ h. absurd (cc (big.1 h)))) rows (λ honest. rw f.there at ((c.in-Ok.ensures.updates honest).replaced)) c.in-Ok.ensures.none)

pub returns-in_ok-code_of-in-Err-clause-written : goal.returns-in_ok-code_of-in-Err-clause-written
returns-in_ok-code_of-in-Err-clause-written g c = λ u is.
    let f = table_found g (goal.at.returns-in_ok-code_of-in-Err-clause-written g c).After-zone-contents u is in
    coded c.in-Err.fault c.in_ok-code_of-in-Err.field-0 (sym c.code_of.ensures ∙ c.in_ok-code_of-in-Err.was)
    (λ too_big code.
    let all = rw too_big at c.in-Err.ensures in
    let big = rw f.there at all.too_big in
    let v : Update = record { file = c.args.number; table = updated c.zone-contents.result c.args.selection f.table } in
    rw (code, ← f.is) (writes_nothing g.S.ForkStore c.args.memory.now c.args.files.now c.update.new.self v c.update.ensures.loads c.update.ensures.count c.update.ensures.others (big.0 refl) (all.untouched refl)))
    (λ cause fault code.
    let all = rw fault at c.in-Err.ensures in
    let big = rw f.there at all.too_big in
    rw (code, ← f.is) (writes_faulted g.S.ForkStore c.args.memory.now c.args.files.now c.update.new.self _ c.update.ensures.loads c.update.ensures.count c.update.ensures.others cause (true_unless _ (λ h. absurd (cc (big.1 h))))
    (λ is. all.before (ap (λ (f : ReplaceFault). Err (Device f)) is))
    (λ honest is. ((all.updates honest).before (ap (λ (f : ReplaceFault). Err (Device f)) is)).fork)
    (λ is. all.closed (ap (λ (f : ReplaceFault). Err (Device f)) is))
    (λ honest is. rw f.there at ((all.updates honest).later (ap (λ (f : ReplaceFault). Err (Device f)) is)))
    (λ is. all.cause (ap (λ (f : ReplaceFault). Err (Device f)) is)) (λ is. all.cause_later (ap (λ (f : ReplaceFault). Err (Device f)) is))))

pub returns-in_err-code_of-in-Err-clause-fits : goal.returns-in_err-code_of-in-Err-clause-fits
returns-in_err-code_of-in-Err-clause-fits g c =
    let ends = err_from_is_err_and c.from_residual.result c.from_residual.ensures.1 in
    rw ends.1 (λ u is.
    let f = table_found g (goal.at.returns-in_err-code_of-in-Err-clause-fits g c).After-zone-contents u is in
    let all = rw (uncoded c.in-Err.fault _ (sym c.code_of.ensures ∙ c.in_err-code_of-in-Err.was)) at c.in-Err.ensures in
    let big = rw f.there at all.too_big in
    rw (← f.is) (true_unless _ (λ h. absurd (cc (big.1 h)))))

pub returns-in-Ok-clause-saves : goal.returns-in-Ok-clause-saves
returns-in-Ok-clause-saves g c =
    let S = g.S.ForkStore in
    let honest = HonestAt S.is_honest c.update.new.self.stores in
    let done = c.in-Ok.ensures.updates in
    let Q : HandleTable → Type 0 = λ table. IsSaved honest (update_of c.args.number (updated table c.args.selection) c.args.files.now.files) (state_of S.fork c.args.memory.now c.update.new.self) in
    saves_fork S c.zone-contents.result c.args.memory.now c.args.selection c.args.number c.args.files.now.files c.args.files.now.stores c.update.new.self _ _ c.zone-contents.ensures c.requires.open c.update.ensures.updates c.update.ensures.others (λ journal h. (done h).settled journal)
    (subst Q c.zone-contents.ensures (saved_update honest S.fork c.args.memory.now c.update.new.self c.args.number (updated c.zone-contents.result c.args.selection) c.args.files.now.files (λ h. (done h).stands)))

pub returns-in_ok-code_of-in-Err-clause-saves : goal.returns-in_ok-code_of-in-Err-clause-saves
returns-in_ok-code_of-in-Err-clause-saves g c = saves_fork g.S.ForkStore c.zone-contents.result c.args.memory.now c.args.selection c.args.number c.args.files.now.files c.args.files.now.stores c.update.new.self _ _ c.zone-contents.ensures c.requires.open c.update.ensures.updates c.update.ensures.others tt tt

pub returns-in_err-code_of-in-Err-clause-saves : goal.returns-in_err-code_of-in-Err-clause-saves
returns-in_err-code_of-in-Err-clause-saves g c =
    let ends = err_from_is_err_and c.from_residual.result c.from_residual.ensures.1 in
    rw ends.1 (saves_fork g.S.ForkStore c.zone-contents.result c.args.memory.now c.args.selection c.args.number c.args.files.now.files c.args.files.now.stores c.update.new.self _ _ c.zone-contents.ensures c.requires.open c.update.ensures.updates c.update.ensures.others tt tt)
