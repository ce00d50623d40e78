use Rattle.std.proofs.Common.{arith}
use Rattle.zone_heap.proofs.Ending.{split_end, none_before, last_within, last_below}
use Rattle.zone_heap.proofs.run.last_free.Goals as goal

pub last_free-requires : goal.last_free-requires
last_free-requires c = split_end c.args.zone.now c.requires.run

pub returns-in_err-at : goal.returns-in_err-at
returns-in_err-at c = rw c.from_residual.ensures (λ run. none_before c.args.zone.now run (c.in_err-at.ensures.none (split_end c.args.zone.now run)))

pub returns-then-start-at : goal.returns-then-start-at
returns-then-start-at c run =
    last_within c.args.zone.now run c.in_ok-at.at (c.in_ok-at.ensures.last (split_end c.args.zone.now run)) c.requires.sizes c.if-start-at.true

pub returns-else-start-at : goal.returns-else-start-at
returns-else-start-at c run =
    last_below c.args.zone.now run c.in_ok-at.at (c.in_ok-at.ensures.last (split_end c.args.zone.now run)) (omega (arith, c.if-start-at.false))
