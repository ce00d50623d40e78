use Rattle.std.proofs.Common.{◌≢◌, [], ◌∙◌, sym, ap, refl, length, map, Some}
use Rattle.std.proofs.lemmas.Bool.{eqb-false}
use Rattle.std.proofs.lemmas.List.{length-map}
use Rattle.script_text.specs.Front.{view}
use Rattle.script_text.specs.Tokens.{AreTokens}
use Rattle.script_text.specs.Tokens.{HasNoFewTokens}
use Rattle.script_text.proofs.FewTokens.{many_none, beyond_none}
use Rattle.script_text.proofs.StatementLaws.{names_after-few, no_line, reads_statement}
use Rattle.script_text.proofs.script.add_line.Goals as goal
use Rattle.script_text.proofs.script.add_line.Goals.{then-number-gt-MAX_LINES-via-then-number-gt-MAX_LINES, then-number-gt-MAX_LINES-via-else-number-gt-MAX_LINES+in_ok-read_tokens+then-not-branch}

pub returns-then-number-gt-MAX_LINES-clause-fault : goal.returns-then-number-gt-MAX_LINES-clause-fault
returns-then-number-gt-MAX_LINES-clause-fault c = elim c.then-number-gt-MAX_LINES.branch [
  | then-number-gt-MAX_LINES-via-then-number-gt-MAX_LINES w ↦ (refl, beyond_none c.args.number c.args.names.now c.args.text.now w.if-number-gt-MAX_LINES.true)
  | then-number-gt-MAX_LINES-via-else-number-gt-MAX_LINES+in_ok-read_tokens+then-not-branch w ↦
      let many : HasNoFewTokens c.args.text.now = rw w.if-not-branch.true at w.in_ok-read_tokens.ensures in
      (refl, many_none c.args.number c.args.names.now c.args.text.now many)
]

pub returns-in_default-clause-fault : goal.returns-in_default-clause-fault
returns-in_default-clause-fault c =
    let tokens = c.deref-2.result.now in
    let read : AreTokens c.args.text.now (map view tokens) = rw c.deref-2.ensures.value (rw c.if-not-branch.false at c.in_ok-read_tokens.ensures) in
    let count : length tokens ≢ 0 = λ e. eqb-false _ _ (sym c.is_empty.ensures ∙ c.if-is_empty.false) (sym c.deref-2.ensures.len ∙ e) in
    let some : map view tokens ≢ [] = λ e. count (sym (length-map tokens view) ∙ ap length e) in
    let none = rw c.in_default.is at c.in_ok-statement.ensures.line in
    (refl, no_line c.args.number c.args.names.now c.args.text.now _ read some none)

pub returns-clause-line : goal.returns-clause-line
returns-clause-line c =
    let tokens = c.deref-2.result.now in
    let read : AreTokens c.args.text.now (map view tokens) = rw c.deref-2.ensures.value (rw c.if-not-branch.false at c.in_ok-read_tokens.ensures) in
    let count : length tokens ≢ 0 = λ e. eqb-false _ _ (sym c.is_empty.ensures ∙ c.if-is_empty.false) (sym c.deref-2.ensures.len ∙ e) in
    let some : map view tokens ≢ [] = λ e. count (sym (length-map tokens view) ∙ ap length e) in
    let is = rw c.in-Some.is at c.in_ok-statement.ensures.line in
    let named = rw c.in-Some.is at c.in_ok-statement.ensures.names in (
      Some (record { number = c.args.number; statement = c.in-Some.statement }),
      reads_statement _ _ _ _ (map view tokens) c.in-Some.statement c.if-number-gt-MAX_LINES.false read some is named,
      c.in_ok-push.ensures.items,
    )

pub returns-clause-few : goal.returns-clause-few
returns-clause-few c =
    let named = rw c.in-Some.is at c.in_ok-statement.ensures.names in
    rw named (names_after-few c.args.number c.args.names.now _ c.requires.few)
