use Rattle.std.proofs.Common.{◌≡◌, Bool, not, List, [], ◌∷◌, sym, ◌∙◌, ap}
use Rattle.std.specs.Prelude.{is_ok, is_some}
use Rattle.std.specs.Path.{path_buf_bytes}
use Rattle.file_replace.specs.declared.calls.Call.TheVariants as calls
use Rattle.file_replace.specs.declared.calls.HeldCall.TheVariants.{Put}
use Rattle.file_replace.specs.Place.{Answered}
use Rattle.file_replace.specs.OnPlace.{answered}
use Rattle.file_replace.specs.Spot.{Spot}
use Rattle.file_replace.proofs.prepared.NewFile.give_up.Goals as goal

pub returns : goal.returns
returns g c =
    let path = path_buf_bytes c.args.self.place.path in let start = c.args.self.place.log.events in let old = c.args.log.now.events in
    let noted = c.note_put.ensures ∙ ap (λ (s : Spot). Put s.path c.remove.new.self.log.events ∷ old) c.remove.ensures.stays in
    let said : is_ok c.remove.result ≡ not (is_some c.left_of.result) = c.is_err-is_left.ensures.negation ∙ ap not (sym c.left_of.ensures.some) in (
      noted ∙ ap (λ (made : List Answered). Put path made ∷ old) c.remove.ensures.removes.0 ∙ ap (λ (ok : Bool). Put path (answered calls.Remove ok [] ∷ start) ∷ old) said,
      c.left_of.ensures.made,
    )
