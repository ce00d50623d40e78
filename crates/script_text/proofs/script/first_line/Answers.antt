use Rattle.std.proofs.Common.{◌≡◌, ◌≢◌, ◌∙◌, ◌+◌, ◌∷◌, sym, ap, ℕ, List, [], length, take, drop, eqb}
use Rattle.std.specs.Str.Lines.{lines, strip_carriage_return}
use Rattle.std.proofs.lemmas.Bool.{eqb-false}
use Rattle.std.proofs.lemmas.List.{take_rest}
use Rattle.script_text.proofs.Fronts.{position_found, position_none}
use Rattle.script_text.proofs.Lines.{lines-newline, lines-last}
use Rattle.script_text.proofs.script.first_line.Goals as goal

pub returns-in-Some-clause-lines : goal.returns-in-Some-clause-lines
returns-in-Some-clause-lines c =
    let text = c.args.text.now in
    let found = position_found (λ byte. eqb byte 10) text c.in-Some.end (sym c.first_newline.ensures ∙ c.in-Some.is) in
    let after = take_rest text (c.in-Some.end + 1) in
    let line : c.without_carriage_return.result.now ≡ strip_carriage_return (take c.in-Some.end text) = c.without_carriage_return.ensures in
    lines-newline text found.1
    ∙ ap (λ (n : ℕ). strip_carriage_return (take n text) ∷ lines (drop (n + 1) text)) found.0
    ∙ ap (λ (t : List ℕ). t ∷ lines (drop (c.in-Some.end + 1) text)) (sym line)
    ∙ ap (λ (t : List ℕ). c.without_carriage_return.result.now ∷ lines t) (sym after)

pub returns-in-None-clause-lines : goal.returns-in-None-clause-lines
returns-in-None-clause-lines c =
    let text = c.args.text.now in
    let past = position_none (λ byte. eqb byte 10) text (sym c.first_newline.ensures ∙ c.in-None.is) in
    let some : text ≢ [] = λ e. eqb-false (length text) 0 (sym c.is_empty.ensures ∙ c.if-is_empty.false) (ap length e) in
    lines-last text some past
