use Rattle.std.proofs.Common.{◌<◌, ◌∙◌, arith}
use Rattle.fork_salvage.proofs.Cursors.{left_at_next, left_in_list}
use Rattle.fork_salvage.proofs.cursor.Cursor.next.Goals as goal

pub loop-self-preserved : goal.loop-self-preserved
loop-self-preserved c =
    let cursor = c.loop-self.self in let n = c.args.plan.now.types.count in
    let low = c.loop-self.invariant.0.next in let other = c.if-self-plan.false in
    let within : cursor.next < n = omega arith in
    let few = c.list_of-self.ensures.small.0 in let near = c.list_of-self.ensures.small.1 in (
      record { next = omega arith; small = omega arith; types = λ _. omega arith },
      c.loop-self.invariant.1 ∙ left_at_next c.args.fork.now c.args.plan.now cursor c.list_of-self.result c.loop-self-test.true within c.list_of-self.ensures.list,
    )

pub returns-clause-left : goal.returns-clause-left
returns-clause-left c =
    let other = c.loop-self-test.false in
    c.loop-self.invariant.1 ∙ left_in_list c.args.fork.now c.args.plan.now c.loop-self.self (omega arith)
