use Rattle.std.proofs.Common.{false, Bool, [], ◌∷◌, refl, ◌∙◌, ap, rules}
use Rattle.file_replace.specs.declared.calls.Call.TheVariants as calls
use Rattle.file_replace.specs.Place.{Folder}
use Rattle.file_replace.specs.OnPlace.{answered}
use Rattle.file_replace.proofs.Along.{spares_made, spares_same, spares_then}
use Rattle.file_replace.proofs.replacement.prepare.Goals as goal

pub returns-in-Err-clause-calls : goal.returns-in-Err-clause-calls
returns-in-Err-clause-calls g c =
    let past = (g.R.Replaces.seen c.args.place.now).calls in
    (record { user = 0; group = 0 }, (refl, c.in-Err.ensures.creates.0 ∙ ap (λ (p : Bool). answered (calls.Create p) false [] ∷ past) c.is_some.ensures))

pub returns-in-Err-clause-prepares : goal.returns-in-Err-clause-prepares
returns-in-Err-clause-prepares g c honest =
    let here = g.R.Replaces.seen c.args.place.now in let new = g.R.Replaces.seen c.create.new.self in
    let creates = c.in-Err.ensures.creates.1 honest in (
      creates.0,
      record {
        spares = spares_same here new (ap (λ (f : Folder). f.path) creates.1.0) creates.1.1;
        made = tt;
        owned = tt;
        ready = tt;
        cleaned = λ told. ap (λ (f : Folder). f.beside) creates.1.0 ∙ c.requires creates.0;
      },
    )

pub returns-in-Ok-clause-prepares : goal.returns-in-Ok-clause-prepares
returns-in-Ok-clause-prepares g c honest =
    let here = g.R.Replaces.seen c.args.place.now in let mid = g.R.Replaces.seen c.create.new.self in let new = g.R.Replaces.seen c.fill.new.place in
    let fills = c.in-Ok.ensures.fills honest in
    let creates = c.in_default.ensures.creates.1 fills.0 in (
      creates.0,
      record {
        spares = spares_then here mid new (spares_made here mid creates.1.0.0 creates.1.1) fills.1.spares;
        made = fills.1.made;
        owned = fills.1.owned;
        ready = fills.1.ready;
        cleaned = tt;
      },
    )

pub returns-in-Err-fill-clause-prepares : goal.returns-in-Err-fill-clause-prepares
returns-in-Err-fill-clause-prepares g c honest =
    let here = g.R.Replaces.seen c.args.place.now in let first = g.R.Replaces.seen c.create.new.self in let mid = g.R.Replaces.seen c.fill.new.place in let new = g.R.Replaces.seen c.remove.new.self in
    let removes = c.remove.ensures.removes.1 honest in
    let fills = c.in-Err-fill.ensures.fills removes.0 in
    let creates = c.in_default.ensures.creates.1 fills.0 in
    let spares = spares_then here first mid (spares_made here first creates.1.0.0 creates.1.1) fills.1.spares in
    let gone = removes.1.0.1 in (
      creates.0,
      record {
        spares = spares_then here mid new spares (spares_same mid new removes.1.0.0 removes.1.1);
        made = tt;
        owned = tt;
        ready = tt;
        cleaned = search rules;
      },
    )
