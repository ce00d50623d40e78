use Rattle.std.proofs.Common.{◌≡◌, ◌-◌, map, take}
use Rattle.script_lang.specs.Answers.{releasing_with}
use Rattle.script_lang.proofs.Places.{placed}
use Rattle.script_lang.proofs.answer.answer_of.Given as goal

-- the calls so far are in the first places
abbrev pub invariant-loop-place : goal.invariant-loop-place
invariant-loop-place l = l.calls ≡ placed (map (releasing_with l.vars) (take l.place l.written-items)) (8 - l.place)
