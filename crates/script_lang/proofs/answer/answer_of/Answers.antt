use Rattle.std.proofs.Common.{ℕ, List, map, ap, ◌∙◌}
use Rattle.mac_base.specs.declared.releasing.ReleasingCall.{ReleasingCall}
use Rattle.mac_base.specs.GrowZone.{Answer}
use Rattle.script_lang.specs.declared.line.WrittenCall.{WrittenCall}
use Rattle.script_lang.specs.Answers.{releasing_with}
use Rattle.script_lang.specs.declared.line.NumberOperand.{NumberOperand}
use Rattle.script_lang.specs.Resolving.{number_of}
use Rattle.script_lang.proofs.Places.{placed-all}
use Rattle.script_lang.proofs.answer.answer_of.Goals as goal

-- an answer of these parts
abbrev made : List ReleasingCall → ℕ → Answer
made calls value = record { calls = calls; value = value }

pub returns : goal.returns
returns c =
    let written = c.calls-written-items.result.now in
    let variables = c.args.vars.now in
    let calls = placed-all (releasing_with variables) written c.loop-place.place c.loop-place.calls c.loop-place-test.false c.loop-place.invariant in
    c.new.ensures
    ∙ ap (λ (t : List ReleasingCall). made t c.number_of.result) (calls ∙ ap (λ (t : List WrittenCall). map (releasing_with variables) t) c.calls-written-items.ensures.calls)
    ∙ ap (λ (n : ℕ). made (map (releasing_with variables) c.args.line.now.calls) n) (c.number_of.ensures ∙ ap (λ (o : NumberOperand). number_of variables o) c.value.ensures)
