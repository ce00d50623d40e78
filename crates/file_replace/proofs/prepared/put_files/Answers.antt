use Rattle.std.proofs.Common.{◌≡◌, List, ◌∷◌, Err, Result, ◌∙◌, ap}
use Rattle.std.specs.declared.io.Error.{Error}
use Rattle.file_replace.specs.declared.calls.HeldCall.{HeldCall}
use Rattle.file_replace.specs.declared.calls.HeldCall.TheVariants.{Put}
use Rattle.file_replace.specs.declared.pair.PairFault.{PairFault}
use Rattle.file_replace.specs.declared.place.FolderSync.{FolderSync}
use Rattle.file_replace.specs.Held.{PutsFiles}
use Rattle.file_replace.specs.Place.{Answered}
use Rattle.file_replace.specs.Spot.{Spot}
use Rattle.file_replace.proofs.Keeping.{ends}
use Rattle.file_replace.proofs.prepared.put_files.Goals as goal

-- both notes name the paths of the two places, which stay the same
noted : (old mid new : List HeldCall) (first first_now second second_now : Spot) (calls others : List Answered) → first_now ≡ first → second_now ≡ second
    → mid ≡ Put first_now.path calls ∷ old → new ≡ Put second_now.path others ∷ mid → new ≡ Put second.path others ∷ Put first.path calls ∷ old
noted old mid new first first_now second second_now calls others same also one other =
    other ∙ ap (λ (s : Spot). Put s.path others ∷ mid) also ∙ ap (λ (log : List HeldCall). Put second.path others ∷ log) (one ∙ ap (λ (s : Spot). Put s.path calls ∷ old) same)

pub returns-in-Ok : goal.returns-in-Ok
returns-in-Ok g c = (
  c.put_both-done.new.first.log.events,
  c.put_both-done.new.second.log.events,
  noted _ _ _ _ _ _ _ _ _ c.in-Ok.ensures.stays_first c.in-Ok.ensures.stays_second c.note_put.ensures c.note_put-2.ensures,
  c.in-Ok.ensures.calls,
  c.in-Ok.ensures.puts,
)

pub returns-in-Err : goal.returns-in-Err
returns-in-Err g c =
    let old = c.args.log.now.events in let new = c.note_put-2.new.log.events in
    let puts : PutsFiles g.F.FolderWorld.held g.G.FolderWorld.held c.args.first c.args.second (Err c.in-Err.fault) old new = (
      c.put_both-done.new.first.log.events,
      c.put_both-done.new.second.log.events,
      noted _ _ _ _ _ _ _ _ _ c.in-Err.ensures.stays_first c.in-Err.ensures.stays_second c.note_put.ensures c.note_put-2.ensures,
      c.in-Err.ensures.calls,
      c.in-Err.ensures.puts,
    ) in
    ends (λ (end : Result (FolderSync × FolderSync) (PairFault Error Error)). PutsFiles g.F.FolderWorld.held g.G.FolderWorld.held c.args.first c.args.second end old new) c.in-Err.fault c.not_both.result c.not_both.ensures puts
