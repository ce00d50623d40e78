use Rattle.std.proofs.Common.{◌≡◌, ◌∙◌, ℕ, List, Some, None, IsSome, Err, Ok, ap, sym, refl, subst}
use Rattle.std.proofs.lemmas.Result.{err_from_is_err_and}
use Rattle.res_manager.proofs.Faults.{coded}
use Rattle.fork_disk.specs.declared.store.ReplaceFault.{ReplaceFault}
use Rattle.mac_base.specs.HandleTable.{HandleTable, bytes_of}
use Rattle.mac_base.specs.declared.reply.Results.TheVariants.{Nothing}
use Rattle.mac_base.specs.declared.resource_call.ResourceCall.TheVariants.{Writing}
use Rattle.mac_base.specs.declared.resource_call.WritingCall.TheVariants.{UpdateResFile}
use Rattle.res_update.specs.Changes.{FileRow}
use Rattle.res_update.specs.Updates.{fits_fork}
use Rattle.res_files.specs.FilesOn.{FilesOn, HonestAt}
use Rattle.res_update.specs.Selected.{updated}
use Rattle.res_update.specs.declared.fault.UpdateFault.TheVariants.{Device}
use Rattle.res_update.specs.declared.selection.Selection.TheVariants.{RowAt}
use Rattle.res_manager.specs.Ends.{WritesFile}
use Rattle.res_manager.specs.Crash.{SavesFork}
use Rattle.res_manager.specs.Patching.{live_alone, update_with}
use Rattle.res_manager.proofs.PatchedFiles.{faulted, found, if_alike, saves_patched, unwritten, updates_as, with_bytes, written_back}
use Rattle.res_manager.proofs.PatchedRows.{alone, there_still}
use Rattle.res_manager.proofs.ReadingBack.{saved_update}
use Rattle.res_manager.proofs.RowUpdates.{row_open}
use Rattle.res_manager.proofs.WritingFiles.{true_unless}
use Rattle.res_manager.proofs.patching.write_bytes.Goals as goal

holds_so : (t : HandleTable) (h : ℕ) (bytes : List ℕ) → t ≡ live_alone h bytes → bytes_of t h ≡ bytes
holds_so t h bytes is = ap (λ (x : HandleTable). bytes_of x h) is ∙ alone h bytes

pub update-requires-clause-open : goal.update-requires-clause-open
update-requires-clause-open g c = row_open c.args.place c.args.files.now.files (λ (r : FileRow). r.handle ≡ Some c.args.handle) c.requires.there

pub attributes_at-attributes-requires : goal.attributes_at-attributes-requires
attributes_at-attributes-requires g c = let f = found c.args.place c.args.handle c.args.files.now.files c.requires.there in subst IsSome (sym f.there) refl

pub set_attributes-requires : goal.set_attributes-requires
set_attributes-requires g c =
    let f = found c.args.place c.args.handle c.args.files.now.files c.requires.there in
    let holds = holds_so c.alone-contents.result c.args.handle c.args.bytes.now c.alone-contents.ensures in
    there_still c.alone-contents.result c.args.handle c.args.bytes.now holds c.args.place c.args.files.now.files f.table f.is f.row f.there f.handle _ c.update.new.self.files (rw f.is at c.in-Ok.ensures.rows)

pub returns-in-Ok-clause-writes : goal.returns-in-Ok-clause-writes
returns-in-Ok-clause-writes g c = λ zone u is.
    let on = c.args.files.now in
    let f = found c.args.place c.args.handle on.files c.requires.there in
    let rows = rw f.is at c.in-Ok.ensures.rows in
    let big = rw f.is at c.in-Ok.ensures.too_big in
    let row : c.attributes_at-attributes.ensures.0 ≡ f.row = cc (sym c.attributes_at-attributes.ensures.1 ∙ f.there) in
    let same = c.attributes_at-attributes.ensures.2 ∙ ap (λ (r : FileRow). r.resource.attributes) row in
    let P : FilesOn _ → Type 0 = λ after. WritesFile g.S.ForkStore zone on (Writing (UpdateResFile None)) u (Ok Nothing) zone after in
    subst P (sym c.set_attributes.ensures)
    (written_back c.alone-contents.result c.args.handle c.args.bytes.now (holds_so _ _ _ c.alone-contents.ensures) c.args.place g.S.ForkStore zone on c.update.new.self f u is c.update.ensures.loads c.update.ensures.count c.update.ensures.others c.attributes_at-attributes.result same
    (true_unless (fits_fork (updated c.alone-contents.result (RowAt c.args.place.index) f.table)) (λ h. absurd (cc (big.1 h)))) rows (λ honest. rw f.is at ((c.in-Ok.ensures.updates honest).replaced)) c.in-Ok.ensures.none)

pub returns-in_ok-code_of-in-Err-clause-writes : goal.returns-in_ok-code_of-in-Err-clause-writes
returns-in_ok-code_of-in-Err-clause-writes g c = λ zone u is.
    let on = c.args.files.now in
    let f = found c.args.place c.args.handle on.files c.requires.there in
    coded c.in-Err.fault c.in_ok-code_of-in-Err.field-0 (sym c.code_of.ensures ∙ c.in_ok-code_of-in-Err.was)
    (λ too_big code.
    let all = rw too_big at c.in-Err.ensures in
    let big = rw f.is at all.too_big in
    rw code (unwritten c.alone-contents.result c.args.handle c.args.bytes.now (holds_so _ _ _ c.alone-contents.ensures) c.args.place g.S.ForkStore zone on c.update.new.self f u is c.update.ensures.loads c.update.ensures.count c.update.ensures.others (big.0 refl) (all.untouched refl)))
    (λ cause fault code.
    let all = rw fault at c.in-Err.ensures in
    let big = rw f.is at all.too_big in
    rw code (faulted c.alone-contents.result c.args.handle c.args.bytes.now (holds_so _ _ _ c.alone-contents.ensures) c.args.place g.S.ForkStore zone on c.update.new.self f u is c.update.ensures.loads c.update.ensures.count c.update.ensures.others cause
    (true_unless (fits_fork (updated c.alone-contents.result (RowAt c.args.place.index) f.table)) (λ h. absurd (cc (big.1 h))))
    (λ is. all.before (ap (λ (f : ReplaceFault). Err (Device f)) is))
    (λ honest is. ((all.updates honest).before (ap (λ (f : ReplaceFault). Err (Device f)) is)).fork)
    (λ is. all.closed (ap (λ (f : ReplaceFault). Err (Device f)) is))
    (λ honest is. rw f.is at ((all.updates honest).later (ap (λ (f : ReplaceFault). Err (Device f)) is)))
    (λ is. all.cause (ap (λ (f : ReplaceFault). Err (Device f)) is)) (λ is. all.cause_later (ap (λ (f : ReplaceFault). Err (Device f)) is))))

pub returns-in-Ok-clause-saves : goal.returns-in-Ok-clause-saves
returns-in-Ok-clause-saves g c = λ zone.
    let S = g.S.ForkStore in
    let on = c.args.files.now in
    let after = c.update.new.self in
    let p = c.args.place in
    let t = c.alone-contents.result in
    let holds = holds_so t c.args.handle c.args.bytes.now c.alone-contents.ensures in
    let alike = if_alike t c.args.handle c.args.bytes.now holds p on.files (found p c.args.handle on.files c.requires.there) in
    let done = λ (honest : HonestAt S.is_honest after.stores p.file). updates_as S p.file (updated t (RowAt p.index)) (with_bytes t c.args.handle c.args.bytes.now holds p) on.files on.stores after.stores _ alike (c.in-Ok.ensures.updates honest) in
    let P : FilesOn _ → Type 0 = λ now. SavesFork S p.file (update_with c.args.bytes.now p on.files) on.stores zone now (Ok (Ok Nothing)) in
    subst P (sym c.set_attributes.ensures)
    (saves_patched t c.args.handle c.args.bytes.now holds p S zone on _ _ _ c.requires.there c.update.ensures.updates c.update.ensures.others
    (λ journal h. (done h).settled journal)
    (saved_update (HonestAt S.is_honest after.stores) S.fork zone after p.file (with_bytes t c.args.handle c.args.bytes.now holds p) on.files (λ h. (done h).stands)))

pub returns-in_ok-code_of-in-Err-clause-saves : goal.returns-in_ok-code_of-in-Err-clause-saves
returns-in_ok-code_of-in-Err-clause-saves g c = λ zone.
    saves_patched c.alone-contents.result c.args.handle c.args.bytes.now (holds_so _ _ _ c.alone-contents.ensures) c.args.place g.S.ForkStore zone c.args.files.now c.update.new.self _ _ c.requires.there c.update.ensures.updates c.update.ensures.others tt tt

pub returns-in_err-code_of-in-Err-clause-saves : goal.returns-in_err-code_of-in-Err-clause-saves
returns-in_err-code_of-in-Err-clause-saves g c = λ zone.
    let ends = err_from_is_err_and c.from_residual.result c.from_residual.ensures.1 in
    rw ends.1 (saves_patched c.alone-contents.result c.args.handle c.args.bytes.now (holds_so _ _ _ c.alone-contents.ensures) c.args.place g.S.ForkStore zone c.args.files.now c.update.new.self _ _ c.requires.there c.update.ensures.updates c.update.ensures.others tt tt)
