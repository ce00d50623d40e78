use Rattle.std.proofs.Common.{arith}
use Rattle.std.proofs.lemmas.Bool.Decides.{nat_tests}
use Rattle.zone_records.proofs.FreeWalk.{walked-some, walked-more, walked-all, walked-end}
use Rattle.zone_records.proofs.chained.is_chained.Goals as goal

pub returns-in-None : goal.returns-in-None
returns-in-None c = (
  λ yes. absurd (cc yes),
  λ a.
      let more = walked-some c.args.blocks.now c.requires.sound c.loop-step.at c.loop-step._step (c.loop-step.invariant c.requires.sound) (let below = c.loop-step-test.true in let count = c.requires.count in omega arith) a in
      absurd (c.in-None.ensures.none more.0 more.1),
)

pub loop-step-preserved : goal.loop-step-preserved
loop-step-preserved c = λ sound. walked-more c.args.blocks.now sound c.loop-step.at c.loop-step._step c.in-Some.next (c.loop-step.invariant sound) c.in-Some.ensures.next

pub returns : goal.returns
returns c =
    let l = c.args.blocks.now in let walked = c.loop-step.invariant c.requires.sound in let done = c.loop-step-test.false in let count = c.requires.count in (
      λ yes. walked-all l c.requires.sound c.loop-step.at c.loop-step._step walked (omega arith) (let is = yes in grind (arith, nat_tests)),
      λ a. let is = walked-end l c.requires.sound c.loop-step.at c.loop-step._step walked (omega arith) a in grind (arith, nat_tests),
    )
