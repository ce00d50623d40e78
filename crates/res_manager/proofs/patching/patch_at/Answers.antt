use Rattle.std.proofs.Common.{◌≡◌, ◌∙◌, ℕ, List, refl, sym, subst, arith}
use Rattle.std.proofs.lemmas.List.{take_at}
use Rattle.res_update.specs.Partial.{data_at}
use Rattle.res_update.specs.Patching.{handle_patched}
use Rattle.res_update.specs.Answered.{IsAnswered}
use Rattle.res_update.specs.declared.patching_call.PatchingCall.{PatchingCall}
use Rattle.res_files.specs.FilesOn.{FilesOn, HonestAt}
use Rattle.res_manager.specs.Patching.{HasHandle, MakesOf}
use Rattle.res_manager.proofs.Keeping.{kept_same}
use Rattle.res_manager.specs.Steps.{state_of}
use Rattle.res_manager.proofs.OnlyRead.{only_read}
use Rattle.res_manager.proofs.UpdatingCalls.{on_err}
use Rattle.res_manager.proofs.PatchedCalls.{err_never, patched_not, patched_saved, patched_too_long, patched_unread, patched_written}
use Rattle.res_manager.proofs.PatchedFiles.{found}
use Rattle.res_manager.proofs.PatchedSteps.{same_handle}
use Rattle.res_manager.proofs.Stepping.{if_ok}
use Rattle.res_manager.proofs.patching.patch_at.Goals as goal

pub returns-in_err-bytes-clause-saves : goal.returns-in_err-bytes-clause-saves
returns-in_err-bytes-clause-saves g c = λ zone.
    patched_not g.S.ForkStore zone c.args.place.file _ c.args.files.now c.args.files.now _ (kept_same g.S.ForkStore c.args.files.now.stores c.args.files.now.stores refl) (err_never _ _ c.from_residual.ensures.0)

pub returns-then-size-gt-MAX_FORK-clause-saves : goal.returns-then-size-gt-MAX_FORK-clause-saves
returns-then-size-gt-MAX_FORK-clause-saves g c = λ zone.
    patched_not g.S.ForkStore zone c.args.place.file _ c.args.files.now c.args.files.now _ (kept_same g.S.ForkStore c.args.files.now.stores c.args.files.now.stores refl) tt

pub returns-then-size-gt-MAX_FORK-clause-patches : goal.returns-then-size-gt-MAX_FORK-clause-patches
returns-then-size-gt-MAX_FORK-clause-patches g c = λ zone.
    let f = found c.args.place (handle_patched c.args.call.now) c.args.files.now.files c.requires.there in
    let size = c.size_patched-size.ensures (data_at c.args.place c.args.files.now.files) c.length_at-own.ensures c.requires.within in
    let more = c.if-size-gt-MAX_FORK.true in
    patched_too_long g.S.ForkStore zone c.args.files.now c.args.place (handle_patched c.args.call.now) c.args.call.now f (omega (arith, size, more))

pub write_bytes-requires-clause-there : goal.write_bytes-requires-clause-there
write_bytes-requires-clause-there g c =
    let P : ℕ → Type 0 = λ h. HasHandle c.args.place h c.read_patched.new.files.files in
    subst P (sym c.handle_patched.ensures) (same_handle _ c.args.place (handle_patched c.args.call.now) c.args.files.now.files c.read_patched.new.files.files c.read_patched.ensures.files c.requires.there)

-- bytes that are made, where they are these
made_so : (honest : Type 0) (call : PatchingCall) (own a b : List ℕ) → a ≡ b → MakesOf honest call own b → MakesOf honest call own a
made_so honest call own a b same made = subst (MakesOf honest call own) (sym same) made

pub returns-in-Ok-clause-patches : goal.returns-in-Ok-clause-patches
returns-in-Ok-clause-patches g c = if_ok _ _ c.write_bytes.result (λ outcome writes zone.
    let f = found c.args.place (handle_patched c.args.call.now) c.args.files.now.files c.requires.there in
    let read = c.read_patched.ensures in
    let same : c.deref.result.now ≡ c.read_patched.new.bytes = c.deref.ensures.value ∙ take_at c.read_patched.new.bytes _ c.in_ok-bytes.bytes.len (c.read_patched.auto.bytes ∙ c.deref_mut.ensures.len) in
    patched_written g.S.ForkStore zone c.args.files.now c.args.place (handle_patched c.args.call.now) c.args.call.now f c.read_patched.new.files read.files read.loads read.count read.keeps
    c.write_bytes.new.files _ (c.write_bytes.ensures.saves zone).works.honest c.in-Ok.ensures.cause (made_so _ _ _ _ _ same c.in-Ok.ensures.made) outcome (writes zone)) c.write_bytes.ensures.writes

pub returns-in-Ok-clause-saves : goal.returns-in-Ok-clause-saves
returns-in-Ok-clause-saves g c = λ zone.
    let f = found c.args.place (handle_patched c.args.call.now) c.args.files.now.files c.requires.there in
    let read = c.read_patched.ensures in
    let same : c.deref.result.now ≡ c.read_patched.new.bytes = c.deref.ensures.value ∙ take_at c.read_patched.new.bytes _ c.in_ok-bytes.bytes.len (c.read_patched.auto.bytes ∙ c.deref_mut.ensures.len) in
    patched_saved g.S.ForkStore zone c.args.files.now c.args.place (handle_patched c.args.call.now) c.args.call.now f c.read_patched.new.files read.files read.loads read.count read.keeps
    c.write_bytes.new.files _ (c.write_bytes.ensures.saves zone).works.honest c.in-Ok.ensures.cause (made_so _ _ _ _ _ same c.in-Ok.ensures.made) c.write_bytes.result (c.write_bytes.ensures.saves zone)

pub returns-in-Ok-clause-same : goal.returns-in-Ok-clause-same
returns-in-Ok-clause-same g c = on_err _ _ c.write_bytes.result (λ same zone.
    let read = c.read_patched.ensures in
    let P : FilesOn _ → Type 0 = λ now. IsAnswered (HonestAt g.S.ForkStore.is_honest now.stores) (state_of g.S.ForkStore.fork zone c.args.files.now) (state_of g.S.ForkStore.fork zone now) in
    subst P (sym same) (only_read g.S.ForkStore zone c.args.files.now c.read_patched.new.files read.files read.loads read.count read.keeps)) c.write_bytes.ensures.same

pub returns-clause-patches : goal.returns-clause-patches
returns-clause-patches g c = λ zone.
    let f = found c.args.place (handle_patched c.args.call.now) c.args.files.now.files c.requires.there in
    let read = c.read_patched.ensures in
    patched_unread g.S.ForkStore zone c.args.files.now c.args.place (handle_patched c.args.call.now) c.args.call.now f c.read_patched.new.files read.files read.loads read.count read.keeps c.in-Err.ensures.cause

pub returns-clause-saves : goal.returns-clause-saves
returns-clause-saves g c = λ zone. patched_not g.S.ForkStore zone c.args.place.file _ c.args.files.now c.read_patched.new.files _ c.read_patched.ensures.keeps tt
