use Rattle.std.proofs.Common.{sym, subst}
use Rattle.zone_heap.specs.Runs.{UsedUpTo}
use Rattle.zone_heap.proofs.Fronts.{split_run, used_up_to, all_used}
use Rattle.zone_heap.proofs.run.used_end.Goals as goal

pub next_free-requires : goal.next_free-requires
next_free-requires c = split_run c.args.zone.now c.requires

pub returns-in-Some : goal.returns-in-Some
returns-in-Some c run =
    subst (λ n. UsedUpTo run.blocks c.args.start n) (sym c.min.ensures) (used_up_to c.args.zone.now run c.in-Some.at (c.in-Some.ensures.next (split_run c.args.zone.now run)))

pub returns-in-None : goal.returns-in-None
returns-in-None c run = all_used c.args.zone.now run (c.in-None.ensures.none (split_run c.args.zone.now run))
