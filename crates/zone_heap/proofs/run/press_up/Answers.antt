use Rattle.std.proofs.Common.{arith}
use Rattle.zone_heap.specs.Runs.{RunAt, UsedFrom}
use Rattle.zone_index.proofs.Entries.{entry_size}
use Rattle.zone_heap.proofs.Lifting.{Under, none_lifted, first_lifted, all_lifted, entry_low, run_low, sizes_low, parcel_low, loose_parcel, sunk_low, under, pair_under, joined_under, not_first}
use Rattle.zone_heap.proofs.run.press_up.Goals as goal
use Rattle.zone_heap.proofs.run.press_up.Goals.{After-used_start-bottom, In-Some-before}

-- the blocks in use right below
abbrev coming : (c : After-used_start-bottom) (run : RunAt c.args.zone.now c.args.start c.args.end) → UsedFrom (c.loop-low.invariant run).rest c.args.start c.used_start-bottom.result
coming c run = (rw c.linked-in-loop-low.ensures at c.used_start-bottom.ensures) (run_low _ _ _ _ (c.loop-low.invariant run))

pub returns-in_default : goal.returns-in_default
returns-in_default c run = none_lifted c.args.zone.now run ((rw c.linked.ensures at c.in_default.ensures) run)

pub loop-low-init : goal.loop-low-init
loop-low-init c run = first_lifted c.args.zone.now run c.requires.sizes c.in-Some.low ((rw c.linked.ensures at c.in-Some.ensures) run)

pub used_start-bottom-requires-clause-run : goal.used_start-bottom-requires-clause-run
used_start-bottom-requires-clause-run c = let l = c.loop-low in rw c.linked-in-loop-low.ensures (run_low _ _ _ _ (c.loop-low.invariant c.requires.run))

pub used_start-bottom-requires-clause-sizes : goal.used_start-bottom-requires-clause-sizes
used_start-bottom-requires-clause-sizes c =
    rw c.linked-in-loop-low.ensures (sizes_low _ _ _ _ (c.loop-low.invariant c.requires.run) c.requires.sizes)

pub sink-requires : goal.sink-requires
sink-requires c =
    let run = c.requires.run in
    let u = coming (goal.at.sink-requires c).After-used_start-bottom run in
    record {
      parcel = parcel_low _ _ _ _ (c.loop-low.invariant run) c.used_start-bottom.result u;
      loose = loose_parcel _ _ _ _ (c.loop-low.invariant run) c.used_start-bottom.result u c.requires.sizes;
    }

pub loop-low-preserved-then-bottom-low : goal.loop-low-preserved-then-bottom-low
loop-low-preserved-then-bottom-low c run =
    sunk_low _ _ _ _ (c.loop-low.invariant run) c.used_start-bottom.result (coming (goal.at.loop-low-preserved-then-bottom-low c).After-used_start-bottom run) c.sink.new.self c.sink.ensures

pub before-requires : goal.before-requires
before-requires c = let run = c.requires.run in rw c.linked-else-bottom-low.ensures (entry_low _ _ _ _ (c.loop-low.invariant run))

pub unreachable-requires : goal.unreachable-requires
unreachable-requires c =
    not_first _ _ _ _ (c.loop-low.invariant c.requires.run) c.loop-low-test.true ((rw c.linked-else-bottom-low.ensures at c.in_default-before.ensures.first) (entry_low _ _ _ _ (c.loop-low.invariant c.requires.run)))

-- or a free block lies below
lower : (c : In-Some-before) (run : RunAt c.args.zone.now c.args.start c.args.end) → Under (c.loop-low.invariant run).rest
lower c run =
    under _ _ _ _ (c.loop-low.invariant run) c.used_start-bottom.result (coming (goal.at.In-Some-before c).After-used_start-bottom run) c.requires.sizes c.loop-low-test.true c.if-bottom-low.false

pub merge-requires : goal.merge-requires
merge-requires c =
    let e = rw c.linked-else-bottom-low.ensures at c.in-Some-before.ensures.there in
    pair_under _ _ _ _ (c.loop-low.invariant c.requires.run) (lower (goal.at.merge-requires c).In-Some-before c.requires.run) c.requires.sizes c.in-Some-before.below e ((rw c.linked-else-bottom-low.ensures at c.in-Some-before.ensures.next) e)

pub loop-low-smaller : goal.loop-low-smaller
loop-low-smaller c =
    let e = rw c.linked-else-bottom-low.ensures at c.in-Some-before.ensures.there in
    omega (arith, (rw c.linked-else-bottom-low.ensures at c.in-Some-before.ensures.next) e, entry_size c.loop-low.zone c.in-Some-before.below e (sizes_low _ _ _ _ (c.loop-low.invariant c.requires.run) c.requires.sizes))

pub loop-low-preserved : goal.loop-low-preserved
loop-low-preserved c run =
    let e = rw c.linked-else-bottom-low.ensures at c.in-Some-before.ensures.there in
    joined_under _ _ _ _ (c.loop-low.invariant run) (lower (goal.at.loop-low-preserved c).In-Some-before run) c.requires.sizes c.in-Some-before.below e ((rw c.linked-else-bottom-low.ensures at c.in-Some-before.ensures.next) e) c.merge.new.self c.merge.ensures

pub returns : goal.returns
returns c run = all_lifted _ _ _ _ (c.loop-low.invariant run) c.requires.sizes c.loop-low-test.false
