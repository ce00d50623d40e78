use Rattle.std.proofs.Common.{◌≡◌, false, Option, Result, List, ◌∷◌, refl, sym, ◌∙◌, ap, subst}
use Rattle.std.specs.Prelude.{IfSome}
use Rattle.file_replace.specs.declared.calls.Call.TheVariants as calls
use Rattle.file_replace.specs.declared.replacement.Stopped.{Stopped}
use Rattle.file_replace.specs.declared.rights.Owner.{Owner}
use Rattle.file_replace.specs.Place.{Answered, Folder}
use Rattle.file_replace.specs.OnPlace.{answered}
use Rattle.file_replace.specs.Replacing.{BelongsTo, CallsToFill, Fills, IsNew, Left}
use Rattle.file_replace.proofs.Along.{half_filled, ready, spares_changed, spares_failed, spares_synced, spares_then, synced_is, trusted_changed, written}
use Rattle.file_replace.proofs.replacement.fill.Goals as goal

pub returns-in-Err-clause-calls : goal.returns-in-Err-clause-calls
returns-in-Err-clause-calls g c =
    let made = (g.R.Replaces.seen c.args.place.now).calls in let new = (g.R.Replaces.seen c.write.new.self).calls in
    subst (λ (r : Result (Option Owner) (Stopped g.row.R-Error.Denot)). CallsToFill c.args.old c.args.bytes.now r made new) (sym c.failed.ensures)
    (λ past begun. (record { user = 0; group = 0 }, (refl, refl, c.in-Err.ensures.writes.0 ∙ ap (λ (m : List Answered). answered calls.Write false c.args.bytes.now ∷ m) begun)))

pub returns-in-Err-clause-fills : goal.returns-in-Err-clause-fills
returns-in-Err-clause-fills g c honest =
    let here = g.R.Replaces.seen c.args.place.now in let new = g.R.Replaces.seen c.write.new.self in
    let writes = c.in-Err.ensures.writes.1 honest in (
      writes.0,
      subst (λ (r : Result (Option Owner) (Stopped g.row.R-Error.Denot)). Fills c.args.old c.args.bytes.now r here new) (sym c.failed.ensures)
          (half_filled c.args.old c.args.bytes.now _ here new (spares_changed here new writes.1.0.0 writes.1.1)),
    )

pub returns-in-Err-dress-clause-fills : goal.returns-in-Err-dress-clause-fills
returns-in-Err-dress-clause-fills g c honest =
    let here = g.R.Replaces.seen c.args.place.now in let mid = g.R.Replaces.seen c.write.new.self in let new = g.R.Replaces.seen c.dress.new.place in
    let dresses = c.in-Err-dress.ensures.dresses honest in
    let writes = c.in_default.ensures.writes.1 dresses.0 in
    (writes.0, half_filled c.args.old c.args.bytes.now _ here new (spares_then here mid new (spares_changed here mid writes.1.0.0 writes.1.1) dresses.1.spares))

pub returns-in-Err-sync-clause-fills : goal.returns-in-Err-sync-clause-fills
returns-in-Err-sync-clause-fills g c honest =
    let here = g.R.Replaces.seen c.args.place.now in let first = g.R.Replaces.seen c.write.new.self in let mid = g.R.Replaces.seen c.dress.new.place in let new = g.R.Replaces.seen c.sync.new.self in
    let syncs = c.in-Err-sync.ensures.syncs.1 honest in
    let dresses = c.in-Ok.ensures.dresses syncs.0 in
    let writes = c.in_default.ensures.writes.1 dresses.0 in
    let spares = spares_then here first mid (spares_changed here first writes.1.0.0 writes.1.1) dresses.1.spares in
    let failed = spares_failed mid new (ap (λ (f : Folder). f.path) syncs.1.0) syncs.1.1 in (
      writes.0,
      subst (λ (r : Result (Option Owner) (Stopped g.row.R-Error.Denot)). Fills c.args.old c.args.bytes.now r here new) (sym c.failed-in-Err-sync.ensures)
          (half_filled c.args.old c.args.bytes.now _ here new (spares_then here mid new spares failed)),
    )

owned : (told : Option Owner) (old now : Left) → now ≡ old → IfSome told (λ owner. BelongsTo owner old) → IfSome told (λ owner. BelongsTo owner now)
owned told old now same has = subst (λ (left : Left). IfSome told (λ owner. BelongsTo owner left)) (sym same) has

pub returns-in-Ok-sync-clause-fills : goal.returns-in-Ok-sync-clause-fills
returns-in-Ok-sync-clause-fills g c honest =
    let here = g.R.Replaces.seen c.args.place.now in let first = g.R.Replaces.seen c.write.new.self in let mid = g.R.Replaces.seen c.dress.new.place in let new = g.R.Replaces.seen c.sync.new.self in
    let bytes = c.args.bytes.now in
    let syncs = c.in-Ok-sync.ensures.syncs.1 honest in
    let dresses = c.in-Ok.ensures.dresses syncs.0 in
    let writes = c.in_default.ensures.writes.1 dresses.0 in
    let begun = c.requires writes.0 in
    let had = written bytes here.files first.files begun.0 writes.1.0 in
    let made = dresses.1.made bytes had in
    let beside = ap (λ (f : Folder). f.beside) syncs.1.0 in
    let synced = synced_is mid.files mid.history new.history syncs.1.1 made.0 made.1 in
    let spares = spares_then here first mid (spares_changed here first writes.1.0.0 writes.1.1) dresses.1.spares in
    let trusted = dresses.1.trusted (trusted_changed here first writes.1.1 begun.1) in (
      writes.0,
      record {
        spares = spares_then here mid new spares (spares_synced made.0 mid new (ap (λ (f : Folder). f.path) syncs.1.0) synced);
        made = subst (IsNew c.args.old bytes) (sym beside) made;
        owned = owned c.in-Ok.owner mid.files.beside new.files.beside beside (dresses.1.owned bytes had);
        ready = ready made.0 mid.history new (beside ∙ made.1) synced trusted;
      },
    )
