use Rattle.std.proofs.Common.{◌≡◌, ◌+◌}
use Rattle.mac_base.specs.Gap.{has_named}
use Rattle.mac_base.specs.ZoneMap.{total_size}
use Rattle.zone_heap.proofs.Owning.{Owned, owned, front_owned, rest_owned}
use Rattle.zone_heap.proofs.Rooms.{gap_found, place-own, long-own}
use Rattle.zone_heap.proofs.room.own_gap.Goals as goal
use Rattle.zone_heap.proofs.room.own_gap.Goals.{After-block_of-at, After-gap_start-start, After-gap_end-end}

-- the block's gap
own : (c : After-block_of-at) → Owned c.args.zone.now c.args.handle c.block_of-at.result
own c = owned c.args.zone.now c.args.handle c.block_of-at.result c.requires.settled c.requires.full c.requires.unlocked (rw c.linked.ensures at c.block_of-at.ensures)

-- where it begins
start_is : (c : After-gap_start-start) → let o = own (goal.at.After-gap_start-start c).After-block_of-at in c.gap_start-start.result + total_size (o.place).front ≡ c.block_of-at.result
start_is c = let o = own (goal.at.After-gap_start-start c).After-block_of-at in c.gap_start-start.ensures (front_owned c.args.zone.now c.args.handle c.block_of-at.result o)

-- and ends
end_is : (c : After-gap_end-end) → let o = own (goal.at.After-gap_end-end c).After-block_of-at in c.gap_end-end.result ≡ c.block_of-at.result + (o.size + total_size (o.place).back)
end_is c = let o = own (goal.at.After-gap_end-end c).After-block_of-at in c.gap_end-end.ensures (rest_owned c.args.zone.now c.args.handle c.block_of-at.result o)

pub gap_start-start-requires : goal.gap_start-start-requires
gap_start-start-requires c =
    let o = own (goal.at.gap_start-start-requires c).After-block_of-at in
    record { front = front_owned c.args.zone.now c.args.handle c.block_of-at.result o }

pub gap_end-end-requires : goal.gap_end-end-requires
gap_end-end-requires c =
    let o = own (goal.at.gap_end-end-requires c).After-block_of-at in
    record { rest = rest_owned c.args.zone.now c.args.handle c.block_of-at.result o }

pub returns : goal.returns
returns c =
    let z = c.args.zone.now in
    let o = own (goal.at.returns c).After-block_of-at in
    let s = start_is (goal.at.returns c).After-gap_start-start in
    let e = end_is (goal.at.returns c).After-gap_end-end in
    gap_found z (λ g. has_named c.args.handle g.blocks) o.gap o.found c.gap_start-start.result c.gap_end-end.result
    (place-own z c.args.handle c.block_of-at.result o c.gap_start-start.result c.gap_end-end.result s e) (long-own z c.args.handle c.block_of-at.result o c.gap_start-start.result c.gap_end-end.result s e)
