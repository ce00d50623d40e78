use Rattle.std.proofs.Common.{inl, Option, None, Some, Result, Ok, Err, refl, sym, subst}
use Rattle.file_replace.specs.declared.replacement.Step.TheVariants.{SetOwner}
use Rattle.file_replace.specs.declared.replacement.Stopped.{Stopped}
use Rattle.file_replace.specs.declared.rights.Owner.{Owner}
use Rattle.file_replace.specs.declared.rights.Rights.{Rights}
use Rattle.file_replace.specs.Replacing.{CallsToDress, Dresses}
use Rattle.file_replace.proofs.Along.{dressed, half_dressed, spares_changed, spares_then, trusted_changed, undressed}
use Rattle.file_replace.proofs.replacement.dress.Goals as goal

nobody : Owner
nobody = record { user = 0; group = 0 }

pub returns-in_default-clause-calls : goal.returns-in_default-clause-calls
returns-in_default-clause-calls g c =
    let past = (g.R.Replaces.seen c.args.place.now).calls in
    subst (λ (o : Option Rights). CallsToDress {E = g.row.R-Error.Denot} o (Ok None) past past) (sym c.in_default.is) (nobody, (refl, refl))

pub returns-in_default-clause-dresses : goal.returns-in_default-clause-dresses
returns-in_default-clause-dresses g c honest =
    let here = g.R.Replaces.seen c.args.place.now in
    (honest, subst (λ (o : Option Rights). Dresses {E = g.row.R-Error.Denot} o (Ok None) here here) (sym c.in_default.is) (undressed here))

pub returns-in-Err-clause-calls : goal.returns-in-Err-clause-calls
returns-in-Err-clause-calls g c =
    let past = (g.R.Replaces.seen c.args.place.now).calls in let new = (g.R.Replaces.seen c.set_owner.new.self).calls in
    let failed : CallsToDress {E = g.row.R-Error.Denot} (Some c.in-Some.rights) (Err (record { step = SetOwner; error = c.in-Err.error })) past new = (nobody, inl (refl, c.in-Err.ensures.sets.0)) in
    let told = subst (λ (o : Option Rights). CallsToDress {E = g.row.R-Error.Denot} o (Err (record { step = SetOwner; error = c.in-Err.error })) past new) (sym c.in-Some.is) failed in
    subst (λ (r : Result (Option Owner) (Stopped g.row.R-Error.Denot)). CallsToDress c.args.old r past new) (sym c.failed.ensures) told

pub returns-in-Err-clause-dresses : goal.returns-in-Err-clause-dresses
returns-in-Err-clause-dresses g c honest =
    let here = g.R.Replaces.seen c.args.place.now in let new = g.R.Replaces.seen c.set_owner.new.self in
    let sets = c.in-Err.ensures.sets.1 honest in (
      sets.0,
      subst (λ (r : Result (Option Owner) (Stopped g.row.R-Error.Denot)). Dresses c.args.old r here new) (sym c.failed.ensures)
          (half_dressed c.args.old _ here new (spares_changed here new sets.1.0.0 sets.1.1) (trusted_changed here new sets.1.1)),
    )

pub returns-in-Err-set_mode-clause-dresses : goal.returns-in-Err-set_mode-clause-dresses
returns-in-Err-set_mode-clause-dresses g c honest =
    let here = g.R.Replaces.seen c.args.place.now in let mid = g.R.Replaces.seen c.set_owner.new.self in let new = g.R.Replaces.seen c.set_mode.new.self in
    let sets = c.in-Err-set_mode.ensures.sets.1 honest in
    let owns = c.in-Ok.ensures.sets.1 sets.0 in
    let spares = spares_then here mid new (spares_changed here mid owns.1.0.0 owns.1.1) (spares_changed mid new sets.1.0.0 sets.1.1) in (
      owns.0,
      subst (λ (r : Result (Option Owner) (Stopped g.row.R-Error.Denot)). Dresses c.args.old r here new) (sym c.failed-in-Err-set_mode.ensures)
          (half_dressed c.args.old _ here new spares (λ was. trusted_changed mid new sets.1.1 (trusted_changed here mid owns.1.1 was))),
    )

pub returns-in-Ok-set_mode-clause-dresses : goal.returns-in-Ok-set_mode-clause-dresses
returns-in-Ok-set_mode-clause-dresses g c honest =
    let here = g.R.Replaces.seen c.args.place.now in let mid = g.R.Replaces.seen c.set_owner.new.self in let new = g.R.Replaces.seen c.set_mode.new.self in
    let rights = c.in-Some.rights in let now = c.in-Ok.now in
    let sets = c.in-Ok-set_mode.ensures.sets.1 honest in
    let owns = c.in-Ok.ensures.sets.1 sets.0 in
    let done : Dresses {E = g.row.R-Error.Denot} (Some rights) (Ok (Some now)) here new = record {
      spares = spares_then here mid new (spares_changed here mid owns.1.0.0 owns.1.1) (spares_changed mid new sets.1.0.0 sets.1.1);
      trusted = λ was. trusted_changed mid new sets.1.1 (trusted_changed here mid owns.1.1 was);
      made = λ bytes is. (dressed bytes rights now c.mode_for-mode.result here.files mid.files new.files c.mode_for-mode.ensures owns.1.0 sets.1.0 is).0;
      owned = λ bytes is. (dressed bytes rights now c.mode_for-mode.result here.files mid.files new.files c.mode_for-mode.ensures owns.1.0 sets.1.0 is).1;
    } in (owns.0, subst (λ (o : Option Rights). Dresses {E = g.row.R-Error.Denot} o (Ok (Some now)) here new) (sym c.in-Some.is) done)
