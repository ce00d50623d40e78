use Rattle.std.proofs.Common.{[], refl, sym}
use Rattle.std.proofs.lemmas.List.{append-nil}
use Rattle.script_run.proofs.Agreeing.{runs-agree}
use Rattle.script_run.proofs.Kept.{keeps-seen, keeps-seen-where}
use Rattle.script_run.proofs.Known.{Gave-none}
use Rattle.script_run.proofs.Noting.{noted-none}
use Rattle.script_run.proofs.Recovered.{run-recovers}
use Rattle.script_run.proofs.Shown.{run-shows}
use Rattle.macheap.specs.Program.{Parts}
use Rattle.macheap.proofs.Ending.{answered, was_refused}
use Rattle.macheap.specs.Restarting.{StartsOnDisk}
use Rattle.macheap.proofs.Restarting.{starts_on}
use Rattle.macheap.proofs.program.program.Goals as goal

pub returns-in-Ok-clause-ends : goal.returns-in-Ok-clause-ends
returns-in-Ok-clause-ends g c =
    let e = c.answer.ensures.ends in
    let notes = e.4 in
    let did = notes.3 in
    let told = did.2 in
    (e.0, e.1, e.2, e.3, (notes.0, notes.1, notes.2, (did.0, did.1, (told.0, told.1, told.2, told.3, answered _ _ _ _ _ _ c.in-Ok.asked c.in-Ok.ensures told.4))))

pub returns-in-Err-clause-ends : goal.returns-in-Err-clause-ends
returns-in-Err-clause-ends g c =
    let told = c.refuse.ensures.ends in
    let moments = c.args.moments.now in
    let before = c.args.output.now.passed in (
      [],
      [],
      sym (append-nil _),
      sym (append-nil _),
      (
        record { alone = []; journalled = [] },
        noted-none before moments.alone,
        noted-none before moments.journalled,
        ([], Gave-none _ _, (told.0, told.1, told.2, told.3, was_refused _ _ _ _ _ _ c.in-Err.error c.in-Err.ensures (refl, refl, (refl, refl), refl) told.4)),
      ),
    )

pub returns-in-Ok-clause-headline : goal.returns-in-Ok-clause-headline
returns-in-Ok-clause-headline g c = (run-shows g.S.ForkStore, run-shows g.J.ForkStore)

pub returns-in-Ok-clause-recovers : goal.returns-in-Ok-clause-recovers
returns-in-Ok-clause-recovers g c = (run-recovers g.S.ForkStore, run-recovers g.J.ForkStore)

pub returns-in-Ok-clause-exact : goal.returns-in-Ok-clause-exact
returns-in-Ok-clause-exact g c = (runs-agree g.S.ForkStore, runs-agree g.J.ForkStore)

pub returns-in-Err-clause-headline : goal.returns-in-Err-clause-headline
returns-in-Err-clause-headline g c = (run-shows g.S.ForkStore, run-shows g.J.ForkStore)

pub returns-in-Err-clause-recovers : goal.returns-in-Err-clause-recovers
returns-in-Err-clause-recovers g c = (run-recovers g.S.ForkStore, run-recovers g.J.ForkStore)

pub returns-in-Err-clause-exact : goal.returns-in-Err-clause-exact
returns-in-Err-clause-exact g c = (runs-agree g.S.ForkStore, runs-agree g.J.ForkStore)

pub returns-in-Ok-clause-kept : goal.returns-in-Ok-clause-kept
returns-in-Ok-clause-kept g c =
    let parts : Parts g.row.F.Denot g.row.S.Denot g.row.J.Denot = record { files = g.O.Opens.asking; store = g.S.ForkStore; with_journal = g.J.ForkStore; plain = g.O.Opens.plain; pairs = g.O.Opens.pairs } in
    (keeps-seen g.S.ForkStore, keeps-seen-where g.J.ForkStore (StartsOnDisk parts) (starts_on parts g.met.O.Opens.starts))

pub returns-in-Err-clause-kept : goal.returns-in-Err-clause-kept
returns-in-Err-clause-kept g c =
    let parts : Parts g.row.F.Denot g.row.S.Denot g.row.J.Denot = record { files = g.O.Opens.asking; store = g.S.ForkStore; with_journal = g.J.ForkStore; plain = g.O.Opens.plain; pairs = g.O.Opens.pairs } in
    (keeps-seen g.S.ForkStore, keeps-seen-where g.J.ForkStore (StartsOnDisk parts) (starts_on parts g.met.O.Opens.starts))
