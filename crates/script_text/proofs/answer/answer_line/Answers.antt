use Rattle.script_text.proofs.AnswerLaws.{is_answer, not_a_value, not_calls}
use Rattle.script_text.proofs.answer.answer_line.Goals as goal

pub returns-in_default : goal.returns-in_default
returns-in_default c = λ answer is. c.in_default.ensures.none is.0 is.1 is.2

pub returns-in_default-number_or_variable : goal.returns-in_default-number_or_variable
returns-in_default-number_or_variable c = not_a_value _ _ _ _ c.in-Some.ensures.found (rw c.in_default-number_or_variable.is at c.number_or_variable.ensures)

pub returns-in_default-2 : goal.returns-in_default-2
returns-in_default-2 c = not_calls _ _ _ _ c.in-Some.ensures.found (rw c.in_default-2.is at c.in_ok-calls.ensures)

pub returns : goal.returns
returns c =
    let value = c.in-Some-number_or_variable.ensures in
    let are = rw c.in-Some-2.is at c.in_ok-calls.ensures in
    rw c.new.ensures (is_answer _ _ _ _ (record { value = c.in-Some-number_or_variable.value; calls = c.in-Some-2.calls }) c.in-Some.ensures.found value are.0 are.1)

pub new-requires : goal.new-requires
new-requires c = let are = rw c.in-Some-2.is at c.in_ok-calls.ensures in are.1
