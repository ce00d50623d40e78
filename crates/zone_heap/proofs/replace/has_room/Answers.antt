use Rattle.std.proofs.Common.{◌≡◌, ◌+◌, ◌∙◌, ap, sym}
use Rattle.std.specs.Prelude.{nat_le}
use Rattle.mac_base.specs.HandleTable.{has_block}
use Rattle.mac_base.specs.Request.{gap_to_grow, room_of, size_of}
use Rattle.zone_heap.proofs.Counting.{room-found, room-none, room-own}
use Rattle.zone_heap.proofs.replace.has_room.Goals as goal
use Rattle.zone_heap.proofs.replace.has_room.Goals.{After-has_block}

-- whether the handle has a block
block : (c : After-has_block) → c.has_block.result ≡ has_block c.args.zone.now.heap.table c.args.handle
block c = (rw c.some_gap_has.ensures.zone at (rw c.linked.ensures at c.has_block.ensures)) ∙ ap (has_block c.args.zone.now.heap.table) c.number-block.ensures

pub returns-then-some_gap_has-clause-room : goal.returns-then-some_gap_has-clause-room
returns-then-some_gap_has-clause-room c =
    room-found c.args.zone.now c.args.handle c.args.needed c.requires.sound c.requires.live c.requires.unlocked (sym c.some_gap_has.ensures.room ∙ c.if-some_gap_has.true)

pub returns-then-not-has_block-clause-room : goal.returns-then-not-has_block-clause-room
returns-then-not-has_block-clause-room c =
    let w = goal.at.returns-then-not-has_block-clause-room c in
    room-none c.args.zone.now c.args.handle c.args.needed c.requires.sound c.requires.live c.requires.unlocked (sym (block w.After-has_block) ∙ c.if-not-has_block.true) (sym c.some_gap_has.ensures.room ∙ c.if-some_gap_has.false)

pub returns-clause-room : goal.returns-clause-room
returns-clause-room c =
    let w = goal.at.returns-clause-room c in
    let z = c.args.zone.now in
    (rw c.some_gap_has.ensures.zone at c.grows_to.ensures.grows)
    ∙ ap (λ x. nat_le c.args.needed (size_of x z.heap.map + room_of (gap_to_grow z.heap.table x z.heap.map))) c.number-block.ensures
    ∙ room-own z c.args.handle c.args.needed c.requires.sound c.requires.live c.requires.unlocked (sym (block w.After-has_block) ∙ c.if-not-has_block.false) (sym c.some_gap_has.ensures.room ∙ c.if-some_gap_has.false)
