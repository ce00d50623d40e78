use Rattle.std.proofs.Common.{◌≡◌, ℕ, List, map, subst}
use Rattle.script_lang.specs.declared.line.WrittenAnswer.{WrittenAnswer}
use Rattle.script_text.specs.Answers.{IsAnswer}
use Rattle.script_text.specs.Front.{view}
use Rattle.script_text.proofs.StatementLaws.{no_statement}
use Rattle.script_text.proofs.statement.statement.Goals as goal

pub returns-in-None-clause-line : goal.returns-in-None-clause-line
returns-in-None-clause-line c =
    let kept : c.call_line.new.names ≡ c.args.names.now = rw c.in_default.is at c.in_ok-call.ensures.kept in
    let call = rw c.in_default.is at c.in_ok-call.ensures.line in
    let answer = rw c.in-None.is at c.in_ok-answer.ensures in
    no_statement _ _ call (subst (λ (names : List (List ℕ)). (line : WrittenAnswer) → ¬ IsAnswer names (map view c.args.line.now) line) kept answer)

pub returns-in-Some-clause-line : goal.returns-in-Some-clause-line
returns-in-Some-clause-line c = rw c.in-Some.is at c.in_ok-call.ensures.line

pub returns-in-Some-2-clause-line : goal.returns-in-Some-2-clause-line
returns-in-Some-2-clause-line c =
    let kept : c.call_line.new.names ≡ c.args.names.now = rw c.in_default.is at c.in_ok-call.ensures.kept in
    subst (λ (names : List (List ℕ)). IsAnswer names (map view c.args.line.now) c.in-Some-2.answer) kept (rw c.in-Some-2.is at c.in_ok-answer.ensures)
