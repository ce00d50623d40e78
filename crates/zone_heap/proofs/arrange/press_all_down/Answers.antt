use Rattle.std.proofs.Common.{◌≡◌, ◌+◌, ◌<◌, ◌≤◌, ◌∙◌, [], sym, ap, subst, arith}
use Rattle.mac_base.specs.declared.block.Entry.{Entry}
use Rattle.mac_base.specs.Arrangement.{down}
use Rattle.mac_base.specs.ZoneMap.{address_after, total_size}
use Rattle.mac_base.specs.ZoneSizes.{ZoneSizes}
use Rattle.zone_heap.specs.Runs.{arranged}
use Rattle.zone_index.proofs.Entries.{FirstIn}
use Rattle.zone_heap.proofs.Sweeping.{Swept, none_swept, sizes_swept, rest_swept, run_swept, stop, swept_last, swept_on, all_swept, entry_stop, some_stop, within_stop, gap_swept}
use Rattle.linked_zone.specs.Loans.{KeepsLoans}
use Rattle.zone_heap.specs.Gaps.{Settled}
use Rattle.zone_heap.proofs.Laws.{settled-all_down}
use Rattle.zone_heap.proofs.LoansKept.{keeps_loans-all_down}
use Rattle.zone_heap.proofs.arrange.press_all_down.Goals as goal
use Rattle.zone_heap.proofs.arrange.press_all_down.Goals.{After-gap_end-end, After-press_down, After-entry_at-at}

-- where the gap ends
long : (c : After-gap_end-end) → c.gap_end-end.result ≡ c.loop-at.at + total_size (gap_swept _ _ _ c.requires c.loop-at.invariant).blocks
long c = c.gap_end-end.ensures (rest_swept _ _ _ c.requires c.loop-at.invariant)

-- it is pressed down
done : (c : After-press_down) → let g = (goal.at.After-press_down c).After-gap_end-end in
    c.press_down.new.zone ≡ arranged c.loop-at.zone (run_swept _ _ _ c.requires c.loop-at.invariant c.gap_end-end.result (long g)) (down (gap_swept _ _ _ c.requires c.loop-at.invariant).blocks)
done c = let g = (goal.at.After-press_down c).After-gap_end-end in
    c.press_down.ensures.zone (run_swept _ _ _ c.requires c.loop-at.invariant c.gap_end-end.result (long g))

pub loop-at-init : goal.loop-at-init
loop-at-init c =
    let base = c.base-at.ensures.value ∙ ap (λ (s : ZoneSizes). s.base) (rw c.linked-2.ensures at c.spec.ensures.sizes) in
    none_swept c.args.zone.now (c.base-at.result + 52) c.requires (let e : c.base-at.result + 52 ≡ address_after c.args.zone.now.shape [] = omega (arith, base) in e)

pub gap_end-end-requires : goal.gap_end-end-requires
gap_end-end-requires c =
    record { rest = (rest_swept _ _ _ c.requires c.loop-at.invariant) }

pub press_down-requires : goal.press_down-requires
press_down-requires c =
    let g = (goal.at.press_down-requires c).After-gap_end-end in
    record { run = run_swept _ _ _ c.requires c.loop-at.invariant c.gap_end-end.result (long g); sizes = sizes_swept _ _ _ c.requires c.loop-at.invariant }

pub entry_at-at-requires : goal.entry_at-at-requires
entry_at-at-requires c =
    let p = (goal.at.entry_at-at-requires c).After-press_down in
    let g = (goal.at.After-press_down p).After-gap_end-end in
    rw c.linked-then-end-top.ensures
    (entry_stop _ _ _ c.requires c.loop-at.invariant c.gap_end-end.result (long g) c.press_down.new.zone (done p)
    (stop _ _ _ c.requires c.loop-at.invariant c.gap_end-end.result (long g) c.press_down.new.zone (done p) (subst (λ top. c.gap_end-end.result < top) (rw c.linked.ensures at c.zone_end-top.ensures.address) c.if-end-top.true)))

-- a fixed block is after it
abbrev fixed : (c : After-entry_at-at) → FirstIn (gap_swept _ _ _ c.requires c.loop-at.invariant).after
fixed c =
    let p = (goal.at.After-entry_at-at c).After-press_down in
    stop _ _ _ c.requires c.loop-at.invariant c.gap_end-end.result (long (goal.at.After-press_down p).After-gap_end-end) c.press_down.new.zone (done p) (subst (λ top. c.gap_end-end.result < top) (rw c.linked.ensures at c.zone_end-top.ensures.address) c.if-end-top.true)

-- which is the one that is read
size : (c : After-entry_at-at) → c.entry_at-at.result.size ≡ ((fixed c).here).size
size c =
    let p = (goal.at.After-entry_at-at c).After-press_down in
    ap (λ (e : Entry). e.size) ((rw c.linked-then-end-top.ensures at c.entry_at-at.ensures) (entry_stop _ _ _ c.requires c.loop-at.invariant c.gap_end-end.result (long (goal.at.After-press_down p).After-gap_end-end) c.press_down.new.zone (done p) (fixed c)))

pub overflow_add-at-then-end-top : goal.overflow_add-at-then-end-top
overflow_add-at-then-end-top c =
    let w = (goal.at.overflow_add-at-then-end-top c).After-entry_at-at in
    let p = (goal.at.After-entry_at-at w).After-press_down in
    omega (arith, size w, within_stop _ _ _ c.requires c.loop-at.invariant c.gap_end-end.result (long (goal.at.After-press_down p).After-gap_end-end) c.press_down.new.zone (done p) (fixed w), (rw c.linked.ensures at c.zone_end-top.ensures.address), c.zone_end-top.ensures.reach)

pub loop-at-smaller-then-end-top : goal.loop-at-smaller-then-end-top
loop-at-smaller-then-end-top c =
    let w = (goal.at.loop-at-smaller-then-end-top c).After-entry_at-at in
    let p = (goal.at.After-entry_at-at w).After-press_down in
    let g = (goal.at.After-press_down p).After-gap_end-end in
    omega (arith, size w, long g, some_stop _ _ _ c.requires c.loop-at.invariant c.gap_end-end.result (long g) c.press_down.new.zone (done p) (fixed w), c.loop-at-test.true)

pub loop-at-preserved-then-end-top : goal.loop-at-preserved-then-end-top
loop-at-preserved-then-end-top c =
    let w = (goal.at.loop-at-preserved-then-end-top c).After-entry_at-at in
    let p = (goal.at.After-entry_at-at w).After-press_down in
    subst (λ n. Swept c.args.zone.now c.press_down.new.zone (c.gap_end-end.result + n)) (sym (size w))
    (swept_on _ _ _ c.requires c.loop-at.invariant c.gap_end-end.result (long (goal.at.After-press_down p).After-gap_end-end) c.press_down.new.zone (done p) (fixed w))

pub loop-at-preserved : goal.loop-at-preserved
loop-at-preserved c =
    let p = (goal.at.loop-at-preserved c).After-press_down in
    swept_last _ _ _ c.requires c.loop-at.invariant c.gap_end-end.result (long (goal.at.After-press_down p).After-gap_end-end) c.press_down.new.zone (done p) (subst (λ top. top ≤ c.gap_end-end.result) (rw c.linked.ensures at c.zone_end-top.ensures.address) c.if-end-top.false)

pub returns : goal.returns
returns c =
    let z = c.args.zone.now in
    let done = all_swept _ _ _ c.requires c.loop-at.invariant (subst (λ top. top ≤ c.loop-at.at) (rw c.linked.ensures at c.zone_end-top.ensures.address) c.loop-at-test.false) in
    record { zone = done; loans = subst (KeepsLoans z) (sym done) (keeps_loans-all_down z c.requires); settled = subst Settled (sym done) (settled-all_down z c.requires) }
