use Rattle.std.proofs.Common.{◌≡◌, ◌+◌, ◌-◌, ◌≤◌, ap, arith, sym, subst}
use Rattle.mac_base.specs.declared.block.Entry.{Entry}
use Rattle.mac_base.specs.ZoneMap.{total_size}
use Rattle.zone_heap.proofs.Opening.{run_lower, sizes_lower}
use Rattle.zone_heap.proofs.Owning.{Owned, owned, entry_owned, front_owned, rest_owned}
use Rattle.zone_heap.proofs.Raising.{run_above, after_it, sizes_above, packed_above, raised}
use Rattle.linked_zone.specs.Loans.{KeepsLoans}
use Rattle.zone_heap.specs.Gaps.{Settled}
use Rattle.zone_heap.proofs.Laws.{settled-moved_high}
use Rattle.zone_heap.proofs.LoansKept.{keeps_loans-moved_high}
use Rattle.zone_heap.proofs.arrange.raise.Goals as goal
use Rattle.zone_heap.proofs.arrange.raise.Goals.{After-block_of-at, After-gap_start-start, After-gap_end-end, After-entry_at-size, After-press_down-below}

-- the block's gap
own : (c : After-block_of-at) → Owned c.args.zone.now c.args.handle c.block_of-at.result
own c = owned c.args.zone.now c.args.handle c.block_of-at.result c.requires.settled c.requires.full c.requires.unlocked (rw c.linked.ensures at c.block_of-at.ensures)

-- where it begins
start_is : (c : After-gap_start-start) → let o = own (goal.at.After-gap_start-start c).After-block_of-at in c.gap_start-start.result + total_size (o.place).front ≡ c.block_of-at.result
start_is c = let o = own (goal.at.After-gap_start-start c).After-block_of-at in c.gap_start-start.ensures (front_owned c.args.zone.now c.args.handle c.block_of-at.result o)

-- and ends
end_is : (c : After-gap_end-end) → let o = own (goal.at.After-gap_end-end c).After-block_of-at in c.gap_end-end.result ≡ c.block_of-at.result + (o.size + total_size (o.place).back)
end_is c = let o = own (goal.at.After-gap_end-end c).After-block_of-at in c.gap_end-end.ensures (rest_owned c.args.zone.now c.args.handle c.block_of-at.result o)

-- the size that was read is the block's
size_is : (c : After-entry_at-size) → let o = own (goal.at.After-entry_at-size c).After-block_of-at in c.entry_at-size.result.size ≡ o.size
size_is c =
    let o = own (goal.at.After-entry_at-size c).After-block_of-at in
    ap (λ (e : Entry). e.size) ((rw c.linked-2.ensures at c.entry_at-size.ensures) (entry_owned c.args.zone.now c.args.handle c.block_of-at.result o))

-- where the block ends
middle_is : (c : After-entry_at-size) → let o = own (goal.at.After-entry_at-size c).After-block_of-at in c.block_of-at.result + c.entry_at-size.result.size ≡ c.block_of-at.result + o.size
middle_is c = ap (λ n. c.block_of-at.result + n) (size_is c)

-- the block lies below the free bytes of the lower part
below_is : (c : After-press_down-below) → c.entry_at-size.result.size ≤ c.press_down-below.result
below_is c =
    let z = c.args.zone.now in
    let o = own (goal.at.After-press_down-below c).After-block_of-at in
    let size = size_is (goal.at.After-press_down-below c).After-entry_at-size in
    let below = after_it z c.args.handle c.block_of-at.result c.requires.settled o c.gap_start-start.result (c.block_of-at.result + c.entry_at-size.result.size) c.gap_end-end.result
    (start_is (goal.at.After-press_down-below c).After-gap_start-start) (middle_is (goal.at.After-press_down-below c).After-entry_at-size) (end_is (goal.at.After-press_down-below c).After-gap_end-end) c.press_down-below.new.zone c.press_down-below.result c.press_down-below.ensures.zone c.press_down-below.ensures.free in
    omega arith

-- where the block is then
low_is : (c : After-press_down-below) → let o = own (goal.at.After-press_down-below c).After-block_of-at in (c.press_down-below.result - c.entry_at-size.result.size) + o.size ≡ c.press_down-below.result
low_is c =
    let size = size_is (goal.at.After-press_down-below c).After-entry_at-size in
    let below = below_is c in
    omega arith

pub gap_start-start-requires : goal.gap_start-start-requires
gap_start-start-requires c = record { front = front_owned c.args.zone.now c.args.handle c.block_of-at.result (own (goal.at.gap_start-start-requires c).After-block_of-at) }

pub gap_end-end-requires : goal.gap_end-end-requires
gap_end-end-requires c = record { rest = rest_owned c.args.zone.now c.args.handle c.block_of-at.result (own (goal.at.gap_end-end-requires c).After-block_of-at) }

pub entry_at-size-requires : goal.entry_at-size-requires
entry_at-size-requires c = rw c.linked-2.ensures (entry_owned c.args.zone.now c.args.handle c.block_of-at.result (own (goal.at.entry_at-size-requires c).After-block_of-at))

pub overflow_add-at : goal.overflow_add-at
overflow_add-at c =
    let o = own (goal.at.overflow_add-at c).After-block_of-at in
    omega (arith, middle_is (goal.at.overflow_add-at c).After-entry_at-size, end_is (goal.at.overflow_add-at c).After-gap_end-end, c.gap_end-end.type_inv)

pub press_down-below-requires : goal.press_down-below-requires
press_down-below-requires c =
    let z = c.args.zone.now in
    let o = own (goal.at.press_down-below-requires c).After-block_of-at in
    record {
      run = run_lower z c.args.handle c.block_of-at.result c.requires.settled o c.gap_start-start.result (c.block_of-at.result + c.entry_at-size.result.size) c.gap_end-end.result
          (start_is (goal.at.press_down-below-requires c).After-gap_start-start) (middle_is (goal.at.press_down-below-requires c).After-entry_at-size) (end_is (goal.at.press_down-below-requires c).After-gap_end-end);
      sizes = c.requires.settled.sizes;
    }

pub press_down-free-requires : goal.press_down-free-requires
press_down-free-requires c =
    let z = c.args.zone.now in
    let o = own (goal.at.press_down-free-requires c).After-block_of-at in
    let s = start_is (goal.at.press_down-free-requires c).After-gap_start-start in
    let m = middle_is (goal.at.press_down-free-requires c).After-entry_at-size in
    let e = end_is (goal.at.press_down-free-requires c).After-gap_end-end in
    record {
      run = run_above z c.args.handle c.block_of-at.result c.requires.settled o c.gap_start-start.result (c.block_of-at.result + c.entry_at-size.result.size) c.gap_end-end.result s m e
          c.press_down-below.new.zone c.press_down-below.result c.press_down-below.ensures.zone c.press_down-below.ensures.free;
      sizes = sizes_lower z c.args.handle c.block_of-at.result c.requires.settled o c.gap_start-start.result (c.block_of-at.result + c.entry_at-size.result.size) c.gap_end-end.result s m e
          c.press_down-below.new.zone c.press_down-below.result c.press_down-below.ensures.zone c.press_down-below.ensures.free;
    }

pub overflow_sub-below : goal.overflow_sub-below
overflow_sub-below c = below_is (goal.at.overflow_sub-below c).After-press_down-below

pub put_on_top-requires : goal.put_on_top-requires
put_on_top-requires c =
    let z = c.args.zone.now in
    let o = own (goal.at.put_on_top-requires c).After-block_of-at in
    let s = start_is (goal.at.put_on_top-requires c).After-gap_start-start in
    let m = middle_is (goal.at.put_on_top-requires c).After-entry_at-size in
    let e = end_is (goal.at.put_on_top-requires c).After-gap_end-end in
    record {
      packed = packed_above z c.args.handle c.block_of-at.result c.requires.settled o c.gap_start-start.result (c.block_of-at.result + c.entry_at-size.result.size) c.gap_end-end.result s m e
          c.press_down-below.new.zone c.press_down-below.result c.press_down-below.ensures.zone c.press_down-below.ensures.free
          c.press_down-free.new.zone c.press_down-free.result c.press_down-free.ensures.zone c.press_down-free.ensures.free
          (c.press_down-below.result - c.entry_at-size.result.size) (low_is (goal.at.put_on_top-requires c).After-press_down-below);
      sizes = sizes_above z c.args.handle c.block_of-at.result c.requires.settled o c.gap_start-start.result (c.block_of-at.result + c.entry_at-size.result.size) c.gap_end-end.result s m e
          c.press_down-below.new.zone c.press_down-below.result c.press_down-below.ensures.zone c.press_down-below.ensures.free
          c.press_down-free.new.zone c.press_down-free.result c.press_down-free.ensures.zone c.press_down-free.ensures.free;
    }

pub returns : goal.returns
returns c =
    let z = c.args.zone.now in
    let o = own (goal.at.returns c).After-block_of-at in
    let done = raised z c.args.handle c.block_of-at.result c.requires.settled o c.gap_start-start.result (c.block_of-at.result + c.entry_at-size.result.size) c.gap_end-end.result
    (start_is (goal.at.returns c).After-gap_start-start) (middle_is (goal.at.returns c).After-entry_at-size) (end_is (goal.at.returns c).After-gap_end-end)
    c.press_down-below.new.zone c.press_down-below.result c.press_down-below.ensures.zone c.press_down-below.ensures.free
    c.press_down-free.new.zone c.press_down-free.result c.press_down-free.ensures.zone c.press_down-free.ensures.free
    (c.press_down-below.result - c.entry_at-size.result.size) (low_is (goal.at.returns c).After-press_down-below) c.put_on_top.new.zone c.put_on_top.ensures in
    record { zone = done; loans = subst (KeepsLoans z) (sym done) (keeps_loans-moved_high z c.args.handle c.requires.settled); settled = subst Settled (sym done) (settled-moved_high z c.args.handle c.requires.settled) }
