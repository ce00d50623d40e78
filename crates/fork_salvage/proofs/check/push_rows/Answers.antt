use Rattle.std.proofs.Common.{suc, ◌≡◌, ◌+◌, ◌-◌, arith}
use Rattle.fork_salvage.specs.Plans.{reference_of}
use Rattle.fork_salvage.specs.Faults.{row_faults}
use Rattle.fork_salvage.proofs.Checked.{rows_step}
use Rattle.fork_salvage.proofs.check.push_rows.Goals as goal

pub loop-turn-preserved : goal.loop-turn-preserved
loop-turn-preserved c =
    let most = c.args.most in let i = c.loop-turn._turn in
    let more : most - i ≡ suc (most - (i + 1)) = omega arith in (
      c.in-Some.ensures.cursor,
      rw c.in_ok-push_row.ensures (rows_step (row_faults c.args.fork.now c.args.plan.now) _ _ _ _ _ (reference_of c.in-Some.reference) _ more c.in-Some.ensures.left c.loop-turn.invariant.1),
    )
