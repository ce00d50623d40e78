use Rattle.std.proofs.Common.{◌++◌, ℕ, List, [], map, refl, sym, ap, ◌∙◌, Bor}
use Rattle.std.proofs.lemmas.List.{append-nil}
use Rattle.clap.specs.Words.{Text}
use Rattle.script_run.proofs.Known.{Gave-none}
use Rattle.script_run.proofs.Noting.{noted-none}
use Rattle.macheap.specs.Program.{Parts}
use Rattle.macheap.specs.declared.moments.AnyMoments.{AnyMoments}
use Rattle.run_stores.specs.declared.stores.AnyStore.{AnyStore}
use Rattle.run_stores.specs.declared.stores.AnyStore.TheVariants.{Alone}
use Rattle.macheap.proofs.Ending.{plain_ran, plain_unopened}
use Rattle.macheap.proofs.program.run_alone.Goals as goal

abbrev now_of : Bor (List ℕ) → Text
now_of name = name.now

pub returns-in-Err-clause-ends : goal.returns-in-Err-clause-ends
returns-in-Err-clause-ends g c =
    let parts : Parts g.row.F.Denot g.row.S.Denot g.row.J.Denot = record { files = g.O.Opens.asking; store = g.S.ForkStore; with_journal = g.J.ForkStore; plain = g.O.Opens.plain; pairs = g.O.Opens.pairs } in
    let e = c.tell_no_stores.ensures.ends in
    let moments = c.args.moments.now in
    let before = c.args.output.now.passed in
    let none : AnyMoments g.row.S.Denot g.row.J.Denot = record { alone = []; journalled = [] } in
    let opened = c.in-Err.ensures.stores in (
      opened.0,
      [],
      opened.1,
      c.in-Err.ensures.none_closed ∙ sym (append-nil _),
      (
        none,
        noted-none before moments.alone,
        noted-none before moments.journalled,
        (
          [],
          Gave-none _ _,
          (
            e.0,
            e.1,
            e.2,
            e.3,
            plain_unopened parts c.args.spec now_of c.args.files.now.forks.items c.args.files.now.journals.items opened.0 none _ c.forks.result.now c.in-Err.fault c.forks.ensures.names c.requires opened.2 (refl, refl) e.4,
          ),
        ),
      ),
    )

pub returns-clause-ends : goal.returns-clause-ends
returns-clause-ends g c =
    let parts : Parts g.row.F.Denot g.row.S.Denot g.row.J.Denot = record { files = g.O.Opens.asking; store = g.S.ForkStore; with_journal = g.J.ForkStore; plain = g.O.Opens.plain; pairs = g.O.Opens.pairs } in
    let opened = c.in-Ok.ensures.stores in
    let notes = c.run_on-status.ensures.ends in
    let did = notes.2 in
    let told = did.2 in
    let moments = c.args.moments.now in
    let before = c.args.output.now.passed in
    let noted : AnyMoments g.row.S.Denot g.row.J.Denot = record { alone = notes.0; journalled = [] } in
    let left = c.run_on-status.result.1.items in
    let closed = c.close_alone.ensures in (
      opened.0,
      map Alone left,
      closed.none_opened ∙ opened.1,
      closed.closed ∙ ap (λ (t : List (AnyStore g.row.S.Denot g.row.J.Denot)). t ++ map Alone left) c.in-Ok.ensures.none_closed,
      (
        noted,
        notes.1,
        noted-none before moments.journalled,
        (
          did.0,
          did.1,
          (
            told.0,
            told.1,
            told.2,
            told.3,
            plain_ran parts c.args.spec now_of c.args.files.now.forks.items c.args.files.now.journals.items opened.0 noted _ c.forks.result.now c.in-Ok.stores.items left c.forks.ensures.names c.requires opened.2 told.4 refl,
          ),
        ),
      ),
    )
