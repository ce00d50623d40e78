use Rattle.std.proofs.Common.{[], refl, sym}
use Rattle.std.proofs.lemmas.List.{append-nil}
use Rattle.script_run.proofs.Known.{Gave-none, Took-none}
use Rattle.script_run.proofs.Noting.{noted-none}
use Rattle.macheap.proofs.program.answer.Goals as goal

pub returns-in-Help-clause-ends : goal.returns-in-Help-clause-ends
returns-in-Help-clause-ends g c =
    let e = c.show_help.ensures.ends in
    let moments = c.args.moments.now in
    let before = c.args.output.now.passed in (
      [],
      [],
      sym (append-nil _),
      sym (append-nil _),
      (
        record { alone = []; journalled = [] },
        noted-none before moments.alone,
        noted-none before moments.journalled,
        ([], Gave-none _ _, (e.0, [], e.1, Took-none _ _, rw c.in-Help.is ((refl, refl, (refl, refl), refl), (e.2, refl)))),
      ),
    )

pub returns-in-Run-clause-ends : goal.returns-in-Run-clause-ends
returns-in-Run-clause-ends g c =
    let e = c.run_over.ensures.ends in
    let notes = e.4 in
    let did = notes.3 in
    let told = did.2 in
    (e.0, e.1, e.2, e.3, (notes.0, notes.1, notes.2, (did.0, did.1, (told.0, told.1, told.2, told.3, rw c.in-Run.is told.4))))
