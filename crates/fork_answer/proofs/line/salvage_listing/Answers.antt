use Rattle.std.proofs.Common.{suc, ◌≡◌, ◌-◌, ◌+◌, arith}
use Rattle.fork_answer.specs.Lines.{item_line}
use Rattle.fork_answer.proofs.Lining.{lines_step, lines_none, lines_end}
use Rattle.fork_answer.proofs.line.salvage_listing.Goals as goal

pub returns-in_default : goal.returns-in_default
returns-in_default c = lines_none (item_line c.args.letters c.args.fork.now) _ _ _ _ c.in_default.ensures.0 c.loop-turn.invariant

pub loop-turn-preserved : goal.loop-turn-preserved
loop-turn-preserved c =
    let most = c.args.most in
    let i = c.loop-turn._turn in
    let more : most - i ≡ suc (most - (i + 1)) = omega arith in
    rw c.in_ok-write.ensures.bytes (lines_step (item_line c.args.letters c.args.fork.now) _ _ _ _ _ _ _ more c.in-Some.ensures c.loop-turn.invariant)

pub returns : goal.returns
returns c =
    let none : c.args.most - c.loop-turn._turn ≡ 0 = omega arith in
    lines_end (item_line c.args.letters c.args.fork.now) _ _ _ _ none c.loop-turn.invariant
