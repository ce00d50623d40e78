use Rattle.std.proofs.Common.{ℕ, List, ◌∷◌, inr, Ok, Err, sym, ◌∙◌, ap, subst}
use Rattle.std.specs.Path.{path_buf_bytes}
use Rattle.std.specs.declared.io.Error.{Error}
use Rattle.file_replace.specs.declared.calls.HeldCall.{HeldCall}
use Rattle.file_replace.specs.declared.calls.HeldCall.TheVariants.{Put}
use Rattle.file_replace.specs.declared.replacement.Fault.{Fault}
use Rattle.file_replace.specs.Held.{IsPrepared}
use Rattle.file_replace.specs.OnHost.{IsSpot}
use Rattle.file_replace.specs.Spot.{Spot}
use Rattle.file_replace.proofs.Keeping.{prepared}
use Rattle.file_replace.proofs.prepared.NewFile.prepare.Goals as goal

pub returns-in-Ok-prepare : goal.returns-in-Ok-prepare
returns-in-Ok-prepare g c =
    let calls = c.prepare.new.place.log.events in
    let done = prepared g.F.FolderWorld.held c.args.old c.args.bytes.now c.in-Ok.place.log.events calls c.in-Ok.ensures.start (Ok c.in-Ok-prepare.now) c.in-Ok-prepare.ensures.calls c.in-Ok-prepare.ensures.prepares in
    let spot = subst (IsSpot (path_buf_bytes c.args.path) c.args.there) (sym c.in-Ok-prepare.ensures.stays) c.in-Ok.ensures.spot in
    (spot, c.in-Ok.ensures.opens, (c.in-Ok-prepare.now, done, c.losses_of.ensures))

pub returns : goal.returns
returns g c =
    let calls = c.prepare.new.place.log.events in let fault = c.in-Err-prepare.fault in let path = path_buf_bytes c.args.path in
    let done = prepared g.F.FolderWorld.held c.args.old c.args.bytes.now c.in-Ok.place.log.events calls c.in-Ok.ensures.start (Err fault) c.in-Err-prepare.ensures.calls c.in-Err-prepare.ensures.prepares in
    let told = subst (λ (f : Fault Error). IsPrepared g.F.FolderWorld.held c.args.old c.args.bytes.now (Err f) calls) (sym c.stopped.ensures) done in
    let same = ap (λ (s : Spot). s.path) c.in-Err-prepare.ensures.stays ∙ c.in-Ok.ensures.spot.0 in
    let noted = c.note_put.ensures ∙ ap (λ (p : List ℕ). Put p calls ∷ c.new.new.log.events) same ∙ ap (λ (log : List HeldCall). Put path calls ∷ log) c.in-Ok.ensures.opens in
    inr (calls, noted, told)
