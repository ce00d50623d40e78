use Rattle.std.proofs.Common.{◌≡◌, ◌+◌, ap, arith}
use Rattle.mac_base.specs.declared.block.Entry.{Entry}
use Rattle.zone_heap.specs.Runs.{RunAt}
use Rattle.zone_heap.proofs.Ending.{entry_last, within_last, used_after}
use Rattle.zone_heap.proofs.run.used_start.Goals as goal
use Rattle.zone_heap.proofs.run.used_start.Goals.{After-entry_at}

-- the size that was read is the free block's
size : (c : After-entry_at) (run : RunAt c.args.zone.now c.args.start c.args.end) → c.in-Some.at + c.entry_at.result.size ≡ c.in-Some.at + (c.in-Some.ensures run).size
size c run = ap (λ (e : Entry). c.in-Some.at + e.size) (c.entry_at.ensures (entry_last c.args.zone.now run c.in-Some.at (c.in-Some.ensures run)))

pub entry_at-requires : goal.entry_at-requires
entry_at-requires c = entry_last c.args.zone.now c.requires.run c.in-Some.at (c.in-Some.ensures c.requires.run)

pub overflow_add-result : goal.overflow_add-result
overflow_add-result c =
    let run = c.requires.run in
    let w = (goal.at.overflow_add-result c).After-entry_at in
    omega (arith, size w run, within_last c.args.zone.now run c.in-Some.at (c.in-Some.ensures run), c.ranges.end.fits)

pub returns-in-Some : goal.returns-in-Some
returns-in-Some c run =
    let w = (goal.at.returns-in-Some c).After-entry_at in
    used_after c.args.zone.now run c.in-Some.at (c.in-Some.ensures run) (c.in-Some.at + c.entry_at.result.size) (size w run)
