use Rattle.std.proofs.Common.{◌≡◌, ◌∙◌, ap, refl}
use Rattle.mac_base.specs.declared.block.Entry.{Entry}
use Rattle.mac_base.specs.HeadKind.{need}
use Rattle.mac_base.specs.Request.{gap_to_grow, room_of, size_of}
use Rattle.std.specs.Prelude.{◌+◌, nat_le}
use Rattle.zone_heap.proofs.Rooms.{gap_indexed}
use Rattle.zone_heap.proofs.Resizing.{grows-gap, grows-itself, to_grow-at}
use Rattle.zone_heap.proofs.Sizing.{Standing, entry_named, size-there}
use Rattle.zone_heap.proofs.size.grows_to.Goals as goal
use Rattle.zone_heap.proofs.size.grows_to.Goals.{After-entry_at-size}

-- the block
abbrev standing : (c : After-entry_at-size) → Standing c.args.zone.now c.args.block 0 (need c.args.zone.now.shape.heads 0) c.address_of.result
standing c = record { sound = c.requires.sound.sound; block = c.requires.block; named = (rw c.linked-linked.ensures at c.address_of.ensures); size = refl }

-- has this size
size_is : (c : After-entry_at-size) → c.entry_at-size.result.size ≡ size_of c.args.block c.args.zone.now.heap.map
size_is c =
    let z = c.args.zone.now in
    ap (λ (e : Entry). e.size) ((rw c.linked-linked.ensures at c.entry_at-size.ensures) (entry_named (rw c.linked-linked.ensures at c.address_of.ensures))) ∙ size-there z c.args.block 0 (need z.shape.heads 0) c.address_of.result (standing c)

pub returns-then-needed-size-clause-grows : goal.returns-then-needed-size-clause-grows
returns-then-needed-size-clause-grows c =
    let z = c.args.zone.now in
    let w = (goal.at.returns-then-needed-size-clause-grows c).After-entry_at-size in
    grows-itself c.args.needed c.entry_at-size.result.size (room_of (gap_to_grow z.heap.table c.args.block z.heap.map)) c.if-needed-size.true
    ∙ ap (λ n. nat_le c.args.needed (n + room_of (gap_to_grow z.heap.table c.args.block z.heap.map))) (size_is w)

pub has_room_at-requires : goal.has_room_at-requires
has_room_at-requires c = record { gap = gap_indexed c.args.zone.now c.args.gap.start (to_grow-at c.args.zone.now c.args.block c.args.gap c.requires.gap) }

pub returns-clause-grows : goal.returns-clause-grows
returns-clause-grows c =
    let w = (goal.at.returns-clause-grows c).After-entry_at-size in
    grows-gap c.args.zone.now c.args.block c.args.needed c.entry_at-size.result.size c.args.gap c.requires.gap (size_is w) c.if-needed-size.false c.has_room_at.result c.has_room_at.ensures.room
