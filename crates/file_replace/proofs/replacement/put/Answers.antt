use Rattle.std.proofs.Common.{◌∙◌, ap}
use Rattle.file_replace.specs.Place.{Folder}
use Rattle.file_replace.specs.Replacing.{Is}
use Rattle.file_replace.proofs.Along.{along_asked, stable}
use Rattle.file_replace.proofs.replacement.put.Goals as goal

pub returns-in-Ok-clause-puts : goal.returns-in-Ok-clause-puts
returns-in-Ok-clause-puts g c honest =
    let here = g.R.Replaces.seen c.args.place.now in let mid = g.R.Replaces.seen c.rename_checked.new.place in let new = g.R.Replaces.seen c.sync_folder.new.self in
    let new_file = Is here.files.beside in let answer = c.in-Ok.answer in
    let syncs = c.in-Ok.ensures.syncs.1 honest in
    let moves = c.in_default.ensures.moves syncs.0 in (
      moves.0,
      record {
        any_moment = λ ready. along_asked new_file here.history mid.history new.history answer (moves.1.any_moment ready) (moves.1.settles ready) syncs.1.1;
        put = ap (λ (f : Folder). f.path) syncs.1.0 ∙ moves.1.put;
        gone = ap (λ (f : Folder). f.beside) syncs.1.0 ∙ moves.1.gone;
        told = (mid.history, syncs.1.1);
        stable = λ ready. stable new_file mid.history new.history answer (moves.1.settles ready) syncs.1.1;
        left = tt;
        cleaned = tt;
      },
    )
