use Rattle.std.proofs.Common.{◌∷◌, Err, sym, ◌∙◌, ap, subst}
use Rattle.std.specs.declared.io.Error.{Error}
use Rattle.file_replace.specs.declared.calls.HeldCall.TheVariants.{Put}
use Rattle.file_replace.specs.declared.replacement.Fault.{Fault}
use Rattle.file_replace.specs.Calls.{seen_at}
use Rattle.file_replace.specs.Place.{IfHonest}
use Rattle.file_replace.specs.Replacing.{CallsToPut, Puts}
use Rattle.file_replace.specs.Spot.{Spot}
use Rattle.file_replace.proofs.prepared.NewFile.put.Goals as goal

pub returns-in-Ok : goal.returns-in-Ok
returns-in-Ok g c =
    let calls = c.put-done.new.place.log.events in let old = c.args.log.now.events in
    let noted = c.note_put.ensures ∙ ap (λ (s : Spot). Put s.path calls ∷ old) c.in-Ok.ensures.stays in
    (calls, noted, c.in-Ok.ensures.calls, c.in-Ok.ensures.puts)

pub returns-in-Err : goal.returns-in-Err
returns-in-Err g c =
    let held = g.F.FolderWorld.held in let start = c.args.self.place.log.events in let calls = c.put-done.new.place.log.events in let old = c.args.log.now.events in
    let made = subst (λ (f : Fault Error). CallsToPut (Err f) start calls) (sym c.stopped.ensures) c.in-Err.ensures.calls in
    let puts = subst (λ (f : Fault Error). IfHonest (Puts (Err f)) (seen_at held start) (seen_at held calls)) (sym c.stopped.ensures) c.in-Err.ensures.puts in
    let noted = c.note_put.ensures ∙ ap (λ (s : Spot). Put s.path calls ∷ old) c.in-Err.ensures.stays in
    (calls, noted, made, puts)
