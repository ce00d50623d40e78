use Rattle.std.proofs.Common.{◌≡◌, ◌+◌, ◌∙◌, ap, arith}
use Rattle.mac_base.specs.declared.block.Entry.{Entry}
use Rattle.mac_base.specs.Gap.{ends_with}
use Rattle.zone_index.proofs.Entries.{entry_within}
use Rattle.zone_heap.proofs.Rooms.{Beside, beside, entry_beside, place-beside, rest_beside, gap_found}
use Rattle.zone_heap.proofs.room.gap_after.Goals as goal
use Rattle.zone_heap.proofs.room.gap_after.Goals.{After-address_of-at, After-entry_at}

-- the gap after the block
own : (c : After-address_of-at) → Beside c.args.zone.now c.args.block c.address_of-at.result
own c = beside c.args.zone.now c.args.block c.address_of-at.result c.requires.settled c.requires.stays (rw c.linked.ensures at c.address_of-at.ensures)

pub entry_at-requires : goal.entry_at-requires
entry_at-requires c = rw c.linked-3.ensures (entry_beside c.args.zone.now c.args.block c.address_of-at.result (own (goal.at.entry_at-requires c).After-address_of-at))

-- where it begins
start_is : (c : After-entry_at) → let b = own (goal.at.After-entry_at c).After-address_of-at in c.address_of-at.result + c.entry_at.result.size ≡ c.address_of-at.result + b.size
start_is c =
    let b = own (goal.at.After-entry_at c).After-address_of-at in
    ap (λ (e : Entry). c.address_of-at.result + e.size) ((rw c.linked-3.ensures at c.entry_at.ensures) (entry_beside c.args.zone.now c.args.block c.address_of-at.result b))

pub overflow_add-start : goal.overflow_add-start
overflow_add-start c =
    let w = (goal.at.overflow_add-start c).After-entry_at in
    let b = own (goal.at.overflow_add-start c).After-address_of-at in
    omega (arith, start_is w, entry_within c.args.zone.now c.address_of-at.result (entry_beside c.args.zone.now c.args.block c.address_of-at.result b), rw c.linked-2.ensures at c.zone_end.ensures.address, c.zone_end.ensures.reach)

pub gap_end-end-requires : goal.gap_end-end-requires
gap_end-end-requires c =
    let b = own (goal.at.gap_end-end-requires c).After-address_of-at in
    record { rest = rest_beside c.args.zone.now c.args.block c.address_of-at.result b (c.address_of-at.result + c.entry_at.result.size) (start_is (goal.at.gap_end-end-requires c).After-entry_at) }

pub returns : goal.returns
returns c =
    let z = c.args.zone.now in
    let start = c.address_of-at.result + c.entry_at.result.size in
    let b = own (goal.at.returns c).After-address_of-at in
    let is = start_is (goal.at.returns c).After-entry_at in
    gap_found z (λ g. ends_with c.args.block g.before) b.gap b.found start c.gap_end-end.result
    (is ∙ place-beside z c.args.block c.address_of-at.result b) (c.gap_end-end.ensures (rest_beside z c.args.block c.address_of-at.result b start is))
