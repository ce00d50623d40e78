use Rattle.std.proofs.Common.{ℕ, List, inr, [], ◌∷◌, Some, Ok, Err, sym, ◌∙◌, ap, subst}
use Rattle.std.specs.Path.{path_buf_bytes}
use Rattle.std.specs.declared.io.Error.{Error}
use Rattle.file_replace.specs.declared.calls.HeldCall.{HeldCall}
use Rattle.file_replace.specs.declared.calls.HeldCall.TheVariants.{Put}
use Rattle.file_replace.specs.declared.replacement.Fault.{Fault}
use Rattle.file_replace.specs.Calls.{seen_at}
use Rattle.file_replace.specs.Place.{IfHonest}
use Rattle.file_replace.specs.Replacing.{CallsOf, ReplacesFile}
use Rattle.file_replace.specs.Spot.{Spot}
use Rattle.file_replace.proofs.Keeping.{replaced}
use Rattle.file_replace.proofs.prepared.put_over.Goals as goal

pub returns-in-Ok-done : goal.returns-in-Ok-done
returns-in-Ok-done g c =
    let calls = c.replace-done.new.place.log.events in let path = path_buf_bytes c.args.path.now in
    let done = replaced g.B.FolderWorld.held (Some c.args.rights) c.args.bytes.now c.in-Ok.place.log.events calls c.in-Ok.ensures.start (Ok c.in-Ok-done.answer) c.in-Ok-done.ensures.calls c.in-Ok-done.ensures.replaces in
    let same = ap (λ (s : Spot). s.path) c.in-Ok-done.ensures.stays ∙ c.in-Ok.ensures.spot.0 in
    let noted = c.note_put.ensures ∙ ap (λ (p : List ℕ). Put p calls ∷ c.new.new.log.events) same ∙ ap (λ (log : List HeldCall). Put path calls ∷ log) c.in-Ok.ensures.opens in
    inr (calls, noted, done.0, done.1)

pub returns-in-Err-done : goal.returns-in-Err-done
returns-in-Err-done g c =
    let held = g.B.FolderWorld.held in let rights = Some c.args.rights in let bytes = c.args.bytes.now in
    let calls = c.replace-done.new.place.log.events in let path = path_buf_bytes c.args.path.now in
    let done = replaced held rights bytes c.in-Ok.place.log.events calls c.in-Ok.ensures.start (Err c.in-Err-done.fault) c.in-Err-done.ensures.calls c.in-Err-done.ensures.replaces in
    let made = subst (λ (f : Fault Error). CallsOf rights bytes (Err f) [] calls) (sym c.stopped.ensures) done.0 in
    let replaces = subst (λ (f : Fault Error). IfHonest (ReplacesFile rights bytes (Err f)) (seen_at held []) (seen_at held calls)) (sym c.stopped.ensures) done.1 in
    let same = ap (λ (s : Spot). s.path) c.in-Err-done.ensures.stays ∙ c.in-Ok.ensures.spot.0 in
    let noted = c.note_put.ensures ∙ ap (λ (p : List ℕ). Put p calls ∷ c.new.new.log.events) same ∙ ap (λ (log : List HeldCall). Put path calls ∷ log) c.in-Ok.ensures.opens in
    inr (calls, noted, made, replaces)
