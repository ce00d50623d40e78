use Rattle.std.proofs.Common.{◌≡◌, ◌+◌, ap, arith, sym, subst}
use Rattle.mac_base.specs.declared.block.Entry.{Entry}
use Rattle.mac_base.specs.ZoneMap.{total_size}
use Rattle.zone_heap.proofs.Opening.{run_lower, sizes_lower, run_upper, opened}
use Rattle.zone_heap.proofs.Owning.{Owned, owned, entry_owned, front_owned, rest_owned}
use Rattle.linked_zone.specs.Loans.{KeepsLoans}
use Rattle.zone_heap.specs.Gaps.{Settled}
use Rattle.zone_heap.proofs.Laws.{settled-opened_after}
use Rattle.zone_heap.proofs.LoansKept.{keeps_loans-opened_after}
use Rattle.zone_heap.proofs.arrange.open_after.Goals as goal
use Rattle.zone_heap.proofs.arrange.open_after.Goals.{After-block_of-at, After-gap_start-start, After-gap_end-end, After-entry_at, After-press_down-free}

-- the block's gap
own : (c : After-block_of-at) → Owned c.args.zone.now c.args.handle c.block_of-at.result
own c = owned c.args.zone.now c.args.handle c.block_of-at.result c.requires.settled c.requires.full c.requires.unlocked (rw c.linked.ensures at c.block_of-at.ensures)

-- where it begins
start_is : (c : After-gap_start-start) → let o = own (goal.at.After-gap_start-start c).After-block_of-at in c.gap_start-start.result + total_size (o.place).front ≡ c.block_of-at.result
start_is c = let o = own (goal.at.After-gap_start-start c).After-block_of-at in c.gap_start-start.ensures (front_owned c.args.zone.now c.args.handle c.block_of-at.result o)

-- and ends
end_is : (c : After-gap_end-end) → let o = own (goal.at.After-gap_end-end c).After-block_of-at in c.gap_end-end.result ≡ c.block_of-at.result + (o.size + total_size (o.place).back)
end_is c = let o = own (goal.at.After-gap_end-end c).After-block_of-at in c.gap_end-end.ensures (rest_owned c.args.zone.now c.args.handle c.block_of-at.result o)

-- where the block ends
middle_is : (c : After-entry_at) → let o = own (goal.at.After-entry_at c).After-block_of-at in c.block_of-at.result + c.entry_at.result.size ≡ c.block_of-at.result + o.size
middle_is c =
    let o = own (goal.at.After-entry_at c).After-block_of-at in
    ap (λ (e : Entry). c.block_of-at.result + e.size) ((rw c.linked-2.ensures at c.entry_at.ensures) (entry_owned c.args.zone.now c.args.handle c.block_of-at.result o))

pub gap_start-start-requires : goal.gap_start-start-requires
gap_start-start-requires c = record { front = front_owned c.args.zone.now c.args.handle c.block_of-at.result (own (goal.at.gap_start-start-requires c).After-block_of-at) }

pub gap_end-end-requires : goal.gap_end-end-requires
gap_end-end-requires c = record { rest = rest_owned c.args.zone.now c.args.handle c.block_of-at.result (own (goal.at.gap_end-end-requires c).After-block_of-at) }

pub entry_at-requires : goal.entry_at-requires
entry_at-requires c = rw c.linked-2.ensures (entry_owned c.args.zone.now c.args.handle c.block_of-at.result (own (goal.at.entry_at-requires c).After-block_of-at))

pub overflow_add-middle : goal.overflow_add-middle
overflow_add-middle c =
    let o = own (goal.at.overflow_add-middle c).After-block_of-at in
    omega (arith, middle_is (goal.at.overflow_add-middle c).After-entry_at, end_is (goal.at.overflow_add-middle c).After-gap_end-end, c.gap_end-end.type_inv)

pub press_down-free-requires : goal.press_down-free-requires
press_down-free-requires c =
    let z = c.args.zone.now in
    let o = own (goal.at.press_down-free-requires c).After-block_of-at in
    record {
      run = run_lower z c.args.handle c.block_of-at.result c.requires.settled o c.gap_start-start.result (c.block_of-at.result + c.entry_at.result.size) c.gap_end-end.result
          (start_is (goal.at.press_down-free-requires c).After-gap_start-start) (middle_is (goal.at.press_down-free-requires c).After-entry_at) (end_is (goal.at.press_down-free-requires c).After-gap_end-end);
      sizes = c.requires.settled.sizes;
    }

pub press_up-requires : goal.press_up-requires
press_up-requires c =
    let z = c.args.zone.now in
    let s = start_is (goal.at.press_up-requires c).After-gap_start-start in
    let m = middle_is (goal.at.press_up-requires c).After-entry_at in
    let e = end_is (goal.at.press_up-requires c).After-gap_end-end in
    let o = own (goal.at.press_up-requires c).After-block_of-at in
    record {
      run = run_upper z c.args.handle c.block_of-at.result c.requires.settled o c.gap_start-start.result (c.block_of-at.result + c.entry_at.result.size) c.gap_end-end.result s m e
          c.press_down-free.new.zone c.press_down-free.result c.press_down-free.ensures.zone c.press_down-free.ensures.free;
      sizes = sizes_lower z c.args.handle c.block_of-at.result c.requires.settled o c.gap_start-start.result (c.block_of-at.result + c.entry_at.result.size) c.gap_end-end.result s m e
          c.press_down-free.new.zone c.press_down-free.result c.press_down-free.ensures.zone c.press_down-free.ensures.free;
    }

pub returns : goal.returns
returns c =
    let z = c.args.zone.now in
    let o = own (goal.at.returns c).After-block_of-at in
    let done = opened z c.args.handle c.block_of-at.result c.requires.settled o c.gap_start-start.result (c.block_of-at.result + c.entry_at.result.size) c.gap_end-end.result
    (start_is (goal.at.returns c).After-gap_start-start) (middle_is (goal.at.returns c).After-entry_at) (end_is (goal.at.returns c).After-gap_end-end)
    c.press_down-free.new.zone c.press_down-free.result c.press_down-free.ensures.zone c.press_down-free.ensures.free c.press_up.new.zone c.press_up.ensures in
    record { zone = done; loans = subst (KeepsLoans z) (sym done) (keeps_loans-opened_after z c.args.handle c.requires.settled); settled = subst Settled (sym done) (settled-opened_after z c.args.handle c.requires.settled) }
