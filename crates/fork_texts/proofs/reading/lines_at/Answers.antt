use Rattle.std.proofs.Common.{◌≡◌, ◌≢◌, ◌∙◌, ◌-◌, ◌+◌, ◌<◌, ◌++◌, List, [], ◌∷◌, ℕ, length, ap, subst, arith}
use Rattle.std.proofs.lemmas.Bool.Decides.{nat_tests}
use Rattle.std.proofs.lemmas.List.{nil_from_length}
use Rattle.fork_texts.specs.declared.line.Line.{Line}
use Rattle.fork_texts.specs.Reading.{after_lines, lines_at, lines_from}
use Rattle.fork_texts.proofs.Loops.{next_line, no_line, no_more, no_turns}
use Rattle.fork_texts.proofs.reading.lines_at.Goals as goal

pub returns-then-is_empty : goal.returns-then-is_empty
unfolding lines_at
returns-then-is_empty c =
    let n = length c.args.text.now in
    let i = c.loop-turn._turn in
    let rest = c.loop-turn.rest.now in
    let zeros : length rest ≡ 0 = grind (arith, nat_tests) in
    let P : List ℕ → Type 0 = λ r. lines_from (n - i) c.loop-turn.lines.items r ≡ lines_from n [] (after_lines c.args.text.now) in
    no_more (n - i) c.loop-turn.lines.items (lines_from n [] (after_lines c.args.text.now)) (subst P (nil_from_length rest zeros) c.loop-turn.invariant)

pub returns-in-Err : goal.returns-in-Err
unfolding lines_at
returns-in-Err c =
    let n = length c.args.text.now in
    let rest = c.loop-turn.rest.now in
    let long : 0 < length rest = grind (arith, nat_tests) in
    let some : rest ≢ [] = λ is. let e : length rest ≡ 0 = ap (λ (t : List ℕ). length t) is in omega arith in
    no_line n c.loop-turn._turn c.loop-turn.lines.items rest (lines_from n [] (after_lines c.args.text.now)) c.in-Err.error (omega arith) some c.loop-turn.invariant c.in-Err.ensures

pub loop-turn-preserved : goal.loop-turn-preserved
loop-turn-preserved c =
    let n = length c.args.text.now in
    let i = c.loop-turn._turn in
    let rest = c.loop-turn.rest.now in
    let done = c.loop-turn.lines.items in
    let line = c.in-Ok.read.0 in
    let after = c.in-Ok.read.1.now in
    let next = c.after_lines-rest-in-loop-turn.result.now in
    let long : 0 < length rest = grind (arith, nat_tests) in
    let some : rest ≢ [] = λ is. let e : length rest ≡ 0 = ap (λ (t : List ℕ). length t) is in omega arith in
    ap (λ (ls : List Line). lines_from (n - (i + 1)) ls next) c.in_ok-push.ensures.items
    ∙ ap (λ (t : List ℕ). lines_from (n - (i + 1)) (done ++ line ∷ []) t) c.after_lines-rest-in-loop-turn.ensures
    ∙ next_line n i done rest after line (lines_from n [] (after_lines c.args.text.now)) (omega arith) some c.loop-turn.invariant c.in-Ok.ensures

pub returns : goal.returns
unfolding lines_at
returns c =
    let n = length c.args.text.now in
    let i = c.loop-turn._turn in
    let done = c.loop-turn.lines.items in
    let rest = c.loop-turn.rest.now in
    let none : n - i ≡ 0 = omega arith in
    let P : ℕ → Type 0 = λ k. lines_from k done rest ≡ lines_from n [] (after_lines c.args.text.now) in
    no_turns done rest (lines_from n [] (after_lines c.args.text.now)) (subst P none c.loop-turn.invariant)
