use Rattle.std.proofs.Common.{◌≡◌, ◌++◌, ℕ, List, codes, ap, sym, subst, ◌∙◌, inr}
use Rattle.path_text.specs.FileNames.{shown_name}
use Rattle.script_run.specs.Run.{IsProperFront}
use Rattle.script_run.proofs.Known.{Took-then}
use Rattle.run_stores.specs.Opening.{reason}
use Rattle.macheap.proofs.Ending.{failed_after, front_after, front_of_more, wrote, wrote_after}
use Rattle.macheap.proofs.program.tell_unopened.Goals as goal

pub returns-then-not-write_whole : goal.returns-then-not-write_whole
returns-then-not-write_whole g c =
    let w = c.if-not-write_whole.ensures in
    let name = shown_name c.args.path.now in
    (w.written.0, w.written.1, inr (front_of_more w.written.0 (codes "cannot open " ++ name) (reason c.args.why) (front_of_more w.written.0 (codes "cannot open ") name w.written.2), w.failures))

pub returns-then-not-write_name : goal.returns-then-not-write_name
returns-then-not-write_name g c =
    let one = c.if-not-write_whole.ensures in
    let two = c.if-not-write_name.ensures in
    let name = shown_name c.args.path.now in
    let front = subst (λ (t : List ℕ). IsProperFront (t ++ two.written) (codes "cannot open " ++ name)) (sym one.written.2) (front_after (codes "cannot open ") two.written name two.bytes) in (
      one.written.0 ++ two.written,
      Took-then _ _ _ _ _ _ one.written.1 two.took,
      inr (front_of_more (one.written.0 ++ two.written) (codes "cannot open " ++ name) (reason c.args.why) front, rw (← one.failures) two.failures),
    )

pub returns : goal.returns
returns g c =
    let one = c.if-not-write_whole.ensures in
    let two = c.if-not-write_name.ensures in
    let three = c.write_whole-2.ensures in
    let front = codes "cannot open " ++ shown_name c.args.path.now in
    let whole : one.written.0 ++ two.written ≡ front = ap (λ (t : List ℕ). t ++ two.written) one.written.2 ∙ ap (λ (t : List ℕ). codes "cannot open " ++ t) two.bytes in
    let last = wrote _ _ _ _ _ three.written.2 (failed_after _ _ _ _ (two.failures ∙ one.failures) three.failures) in (
      (one.written.0 ++ two.written) ++ three.written.0,
      Took-then _ _ _ _ _ _ (Took-then _ _ _ _ _ _ one.written.1 two.took) three.written.1,
      rw (← c.reason.ensures) (wrote_after front (one.written.0 ++ two.written) c.reason.result.now three.written.0 _ whole last),
    )
