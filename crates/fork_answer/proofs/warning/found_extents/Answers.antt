use Rattle.std.proofs.Common.{suc, ◌≡◌, ◌-◌, ◌+◌, ◌++◌, List, ap, ◌∙◌, arith}
use Rattle.fork_answer.specs.Warnings.{Extent, extent_in}
use Rattle.fork_answer.proofs.Lining.{lines_step, lines_none, lines_end}
use Rattle.fork_answer.proofs.warning.found_extents.Goals as goal

pub returns-in_default : goal.returns-in_default
returns-in_default c = lines_none (extent_in c.args.pool) _ _ _ _ c.in_default.ensures.0 c.loop-turn.invariant

pub loop-turn-preserved : goal.loop-turn-preserved
loop-turn-preserved c =
    let i = c.loop-turn._turn in
    let more : 4194304 - i ≡ suc (4194304 - (i + 1)) = omega arith in
    let one = c.in_ok-push_any.ensures ∙ ap (λ (found : List Extent). c.loop-turn.extents.items ++ found) c.extent_in.ensures in
    rw one (lines_step (extent_in c.args.pool) _ _ _ _ _ _ _ more c.in-Some.ensures c.loop-turn.invariant)

pub returns : goal.returns
returns c =
    let none : 4194304 - c.loop-turn._turn ≡ 0 = omega arith in
    lines_end (extent_in c.args.pool) _ _ _ _ none c.loop-turn.invariant
