use Rattle.std.proofs.Common.{suc, ◌≡◌, ◌+◌, ◌-◌, sym, ◌∙◌, arith}
use Rattle.fork_salvage.specs.Plans.{reference_of}
use Rattle.fork_salvage.specs.Salvage.{is_kept}
use Rattle.fork_salvage.proofs.Cursors.{take_first, fails_all, goes_on}
use Rattle.fork_salvage.proofs.cursor.keeps_all.Goals as goal

pub returns-then-not-is_kept : goal.returns-then-not-is_kept
returns-then-not-is_kept c =
    let n = c.most_rows-most.result in let i = c.loop-turn._turn in
    let more : n - i ≡ suc (n - (i + 1)) = omega arith in
    fails_all (is_kept c.args.fork.now c.args.plan.now) _ _ _ (reference_of c.in-Some.reference) c.loop-turn.invariant.1
    (take_first _ _ _ _ _ more c.in-Some.ensures.left) (sym c.is_kept.ensures ∙ c.if-not-is_kept.true)

pub loop-turn-preserved : goal.loop-turn-preserved
loop-turn-preserved c =
    let n = c.most_rows-most.result in let i = c.loop-turn._turn in
    let more : n - i ≡ suc (n - (i + 1)) = omega arith in (
      c.in-Some.ensures.cursor,
      goes_on (is_kept c.args.fork.now c.args.plan.now) _ _ _ (reference_of c.in-Some.reference) c.loop-turn.invariant.1
          (take_first _ _ _ _ _ more c.in-Some.ensures.left) (sym c.is_kept.ensures ∙ c.if-not-is_kept.false),
    )
