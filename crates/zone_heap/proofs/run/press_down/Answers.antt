use Rattle.std.proofs.Common.{◌≡◌, ◌+◌, ◌-◌, ◌∙◌, sym, ap, subst, arith}
use Rattle.mac_base.specs.declared.block.Entry.{Entry}
use Rattle.zone_heap.specs.Runs.{RunAt, UsedUpTo}
use Rattle.zone_heap.proofs.Pressing.{Pressing, Ahead, none_pressed, all_pressed, run_next, within_used, next_is_after, parcel_next, loose_parcel, passed, stayed, ahead, entry_ahead, pair_ahead, merged, first_free, within_ahead, some_size}
use Rattle.zone_heap.proofs.run.press_down.Goals as goal
use Rattle.zone_heap.proofs.run.press_down.Goals.{After-used_end-after, After-entry_at-size, then-free-next, else-free-next, then-free-next-2, else-free-next-2}

-- the blocks in use that come next
abbrev coming : (c : After-used_end-after) (run : RunAt c.args.zone.now c.args.start c.args.end) → UsedUpTo (c.loop-next.invariant run).rest c.loop-next.next c.used_end-after.result
coming c run = (rw c.linked.ensures at c.used_end-after.ensures) (run_next _ _ _ _ _ (c.loop-next.invariant run))

-- or a free block
unused : (c : After-entry_at-size) (run : RunAt c.args.zone.now c.args.start c.args.end) → Ahead (c.loop-next.invariant run).rest
unused c run =
    ahead _ _ _ _ _ (c.loop-next.invariant run) c.used_end-after.result (coming (goal.at.After-entry_at-size c).After-used_end-after run) c.requires.sizes c.loop-next-test.true c.if-next-after.false

-- of the size that is read
size : (c : After-entry_at-size) (run : RunAt c.args.zone.now c.args.start c.args.end) → c.entry_at-size.result.size ≡ ((unused c run).here).size
size c run = ap (λ (e : Entry). e.size) ((rw c.linked-else-next-after.ensures at c.entry_at-size.ensures) (entry_ahead _ _ _ _ _ (c.loop-next.invariant run) (unused c run)))

pub loop-next-init : goal.loop-next-init
loop-next-init c run = none_pressed c.args.zone.now run

pub used_end-after-requires : goal.used_end-after-requires
used_end-after-requires c = let run = c.requires.run in rw c.linked.ensures (run_next _ _ _ _ _ (c.loop-next.invariant run))

pub carry-requires : goal.carry-requires
carry-requires c =
    let run = c.requires.run in
    let u = coming (goal.at.carry-requires c).After-used_end-after run in
    record {
      parcel = parcel_next _ _ _ _ _ (c.loop-next.invariant run) c.used_end-after.result u c.if-free-next.true;
      loose = loose_parcel _ _ _ _ _ (c.loop-next.invariant run) c.used_end-after.result u c.requires.sizes c.if-free-next.true;
    }

pub overflow_add-free : goal.overflow_add-free
overflow_add-free c =
    let run = c.requires.run in
    let u = coming (goal.at.overflow_add-free c).After-used_end-after run in
    omega (arith, within_used _ _ _ _ _ (c.loop-next.invariant run) c.used_end-after.result u, next_is_after _ _ _ _ _ (c.loop-next.invariant run), c.if-next-after.true, c.ranges.end.fits)

pub loop-next-preserved-then-next-after : goal.loop-next-preserved-then-next-after
loop-next-preserved-then-next-after c run =
    let l = c.loop-next in
    let p = l.invariant run in
    let at = c.used_end-after.result in
    let u = coming (goal.at.loop-next-preserved-then-next-after c).After-used_end-after run in
    elim c.if-free-next.branch [
      | then-free-next w ↦ passed _ _ _ _ _ p at u c.if-free-next.zone w.if-free-next.true (λ parcel. w.zone-is ∙ w.carry.ensures parcel)
      | else-free-next w ↦ subst (λ y. Pressing c.args.zone.now run y (l.free + (at - l.next)) at) (sym w.zone-is) (stayed _ _ _ _ _ p at u w.if-free-next.false)
    ]

pub entry_at-size-requires : goal.entry_at-size-requires
entry_at-size-requires c =
    let p = c.loop-next.invariant c.requires.run in
    let u = coming (goal.at.entry_at-size-requires c).After-used_end-after c.requires.run in
    rw c.linked-else-next-after.ensures (entry_ahead _ _ _ _ _ p (ahead _ _ _ _ _ p c.used_end-after.result u c.requires.sizes c.loop-next-test.true c.if-next-after.false))

pub merge-requires : goal.merge-requires
merge-requires c =
    pair_ahead _ _ _ _ _ (c.loop-next.invariant c.requires.run) (unused (goal.at.merge-requires c).After-entry_at-size c.requires.run) c.if-free-next-2.true

pub overflow_add-next : goal.overflow_add-next
overflow_add-next c =
    let run = c.requires.run in
    let w = (goal.at.overflow_add-next c).After-entry_at-size in
    omega (arith, size w run, within_ahead _ _ _ _ _ (c.loop-next.invariant run) (unused w run), c.ranges.end.fits)

pub loop-next-smaller : goal.loop-next-smaller
loop-next-smaller c =
    let run = c.requires.run in
    let w = (goal.at.loop-next-smaller c).After-entry_at-size in
    omega (arith, size w run, some_size _ _ _ _ _ (c.loop-next.invariant run) (unused w run) c.requires.sizes, c.loop-next-test.true)

pub loop-next-preserved : goal.loop-next-preserved
loop-next-preserved c run =
    let l = c.loop-next in
    let p = l.invariant run in
    let w = (goal.at.loop-next-preserved c).After-entry_at-size in
    let a = unused w run in
    subst (λ n. Pressing c.args.zone.now run c.if-free-next-2.zone l.free (l.next + n)) (sym (size w run)) (elim c.if-free-next-2.branch [
      | then-free-next-2 v ↦ merged _ _ _ _ _ p a c.if-free-next-2.zone v.if-free-next-2.true (λ pair. v.zone-is ∙ v.merge.ensures pair)
      | else-free-next-2 v ↦ subst (λ y. Pressing c.args.zone.now run y l.free (l.next + (a.here).size)) (sym v.zone-is) (first_free _ _ _ _ _ p a v.if-free-next-2.false (some_size _ _ _ _ _ p a c.requires.sizes))
    ])

pub returns-clause-zone : goal.returns-clause-zone
returns-clause-zone c run =
    let l = c.loop-next in
    (all_pressed c.args.zone.now run l.zone l.free l.next c.requires.sizes (l.invariant run) c.loop-next-test.false).zone

pub returns-clause-free : goal.returns-clause-free
returns-clause-free c run =
    let l = c.loop-next in
    (all_pressed c.args.zone.now run l.zone l.free l.next c.requires.sizes (l.invariant run) c.loop-next-test.false).free_is
