use Rattle.std.proofs.Common.{◌≡◌, ℕ, List, [], ◌++◌, refl, sym, ap, subst, ◌∙◌}
use Rattle.clap.specs.Words.{kind_of}
use Rattle.script_run.specs.Run.{IsProperFront}
use Rattle.script_run.proofs.Known.{Took-then}
use Rattle.macheap.specs.Program.{cut, opening_of, shown}
use Rattle.macheap.proofs.Ending.{front_after, front_of_more}
use Rattle.macheap.proofs.program.show_help.Goals as goal

pub returns-then-not-write_whole-clause-ends : goal.returns-then-not-write_whole-clause-ends
returns-then-not-write_whole-clause-ends g c =
    let w = c.if-not-write_whole.ensures in
    let opening = opening_of (kind_of c.args.text.now) in
    let front = subst (IsProperFront w.written.0) c.opening_of-opening.ensures w.written.2 in
    (w.written.0, w.written.1, cut [] c.status-then-not-write_whole.ensures (front_of_more w.written.0 opening [] front) w.failures)

pub returns-then-not-write_whole-2-clause-ends : goal.returns-then-not-write_whole-2-clause-ends
returns-then-not-write_whole-2-clause-ends g c =
    let one = c.if-not-write_whole.ensures in
    let two = c.if-not-write_whole-2.ensures in
    let opening = opening_of (kind_of c.args.text.now) in
    let whole : one.written.0 ≡ opening = one.written.2 ∙ c.opening_of-opening.ensures in
    let text = c.as_bytes.result.now in (
      one.written.0 ++ two.written.0,
      Took-then _ _ _ _ _ _ one.written.1 two.written.1,
      cut text c.status-then-not-write_whole-2.ensures
          (subst (λ (t : List ℕ). IsProperFront (t ++ two.written.0) (opening ++ text)) (sym whole) (front_after opening two.written.0 text two.written.2))
          (rw (← one.failures) two.failures),
    )

pub returns-clause-ends : goal.returns-clause-ends
returns-clause-ends g c =
    let one = c.if-not-write_whole.ensures in
    let two = c.if-not-write_whole-2.ensures in
    let opening = opening_of (kind_of c.args.text.now) in
    let whole : one.written.0 ≡ opening = one.written.2 ∙ c.opening_of-opening.ensures in
    let text = c.as_bytes.result.now in (
      one.written.0 ++ two.written.0,
      Took-then _ _ _ _ _ _ one.written.1 two.written.1,
      shown text refl (ap (λ (t : List ℕ). t ++ two.written.0) whole ∙ ap (λ (t : List ℕ). opening ++ t) two.written.2),
    )
