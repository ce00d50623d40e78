use Rattle.std.proofs.Common.{◌+◌, ◌∙◌, min, ap, arith}
use Rattle.linked_zone.specs.Changes.{relocated}
use Rattle.linked_zone.specs.Places.{RoomFor}
use Rattle.linked_zone.proofs.Standing.{Kept, stands-now}
use Rattle.linked_zone.proofs.EndsSwapped.{room-can, head-is, room-begins}
use Rattle.linked_zone.proofs.EndsRelocated.{relocate-block, relocate-record, relocate-flags, relocate-length, relocate-above, relocate-placed, relocate-can_flag, relocate-can_copy, relocate-held, relocate-follows, relocate-ends}
use Rattle.linked_zone.proofs.zone.LinkedZone.relocate.Goals as goal

pub overflow_add-contents : goal.overflow_add-contents
overflow_add-contents c = let below = room-begins _ _ (stands-now c.self.invariant c.self.view_is) c.args.at c.args.length c.requires.room c.spec.result c.heads.result c.head_size.result c.spec.ensures c.heads.ensures c.head_size.ensures in omega arith

pub header_flags-flags-requires : goal.header_flags-flags-requires
header_flags-flags-requires c = relocate-block _ _ (stands-now c.self.invariant c.self.view_is) c.args.handle c.args.length c.block_of-from.result c.args.at c.requires.full c.requires.here c.block_of-from.ensures c.requires.room

pub length_at-requires : goal.length_at-requires
length_at-requires c = relocate-record _ _ (stands-now c.self.invariant c.self.view_is) c.args.handle c.args.length c.block_of-from.result c.args.at c.requires.full c.requires.here c.block_of-from.ensures c.requires.room

pub place_handle-requires-clause-room : goal.place_handle-requires-clause-room
place_handle-requires-clause-room c = room-can _ _ (stands-now c.self.invariant c.self.view_is) c.args.at c.args.length c.requires.room

pub place_handle-requires-clause-above : goal.place_handle-requires-clause-above
place_handle-requires-clause-above c = relocate-above _ _ (stands-now c.self.invariant c.self.view_is) c.args.handle c.args.length c.block_of-from.result c.args.at c.requires.full c.requires.here c.block_of-from.ensures c.requires.room

pub set_header_flags-requires-clause-there : goal.set_header_flags-requires-clause-there
set_header_flags-requires-clause-there c = relocate-placed _ _ (stands-now c.self.invariant c.self.view_is) c.args.handle c.args.length c.block_of-from.result c.args.at c.requires.full c.requires.here c.block_of-from.ensures c.requires.room c.place_handle.new.self c.place_handle.ensures

pub set_header_flags-requires-clause-sayable : goal.set_header_flags-requires-clause-sayable
set_header_flags-requires-clause-sayable c = relocate-can_flag _ _ (stands-now c.self.invariant c.self.view_is) c.args.handle c.args.length c.block_of-from.result c.args.at c.requires.full c.requires.here c.block_of-from.ensures c.requires.room c.place_handle.new.self c.place_handle.ensures c.header_flags-flags.result (relocate-flags _ _ (stands-now c.self.invariant c.self.view_is) c.args.handle c.args.length c.block_of-from.result c.args.at c.requires.full c.requires.here c.block_of-from.ensures c.requires.room c.header_flags-flags.result c.header_flags-flags.ensures)

pub copy-requires : goal.copy-requires
copy-requires c = relocate-can_copy _ _ (stands-now c.self.invariant c.self.view_is) c.args.handle c.args.length c.block_of-from.result c.args.at c.requires.full c.requires.here c.block_of-from.ensures c.requires.room c.place_handle.new.self c.place_handle.ensures c.header_flags-flags.result (relocate-flags _ _ (stands-now c.self.invariant c.self.view_is) c.args.handle c.args.length c.block_of-from.result c.args.at c.requires.full c.requires.here c.block_of-from.ensures c.requires.room c.header_flags-flags.result c.header_flags-flags.ensures) c.set_header_flags.new.self c.set_header_flags.ensures c.min-kept.result (c.min-kept.ensures ∙ ap (λ k. min k c.args.length) (relocate-length _ _ (stands-now c.self.invariant c.self.view_is) c.args.handle c.args.length c.block_of-from.result c.args.at c.requires.full c.requires.here c.block_of-from.ensures c.requires.room c.length_at.result c.length_at.ensures))

pub set_free-requires : goal.set_free-requires
set_free-requires c = relocate-held _ _ (stands-now c.self.invariant c.self.view_is) c.args.handle c.args.length c.block_of-from.result c.args.at c.requires.full c.requires.here c.block_of-from.ensures c.requires.room c.place_handle.new.self c.place_handle.ensures c.header_flags-flags.result (relocate-flags _ _ (stands-now c.self.invariant c.self.view_is) c.args.handle c.args.length c.block_of-from.result c.args.at c.requires.full c.requires.here c.block_of-from.ensures c.requires.room c.header_flags-flags.result c.header_flags-flags.ensures) c.set_header_flags.new.self c.set_header_flags.ensures c.min-kept.result (c.min-kept.ensures ∙ ap (λ k. min k c.args.length) (relocate-length _ _ (stands-now c.self.invariant c.self.view_is) c.args.handle c.args.length c.block_of-from.result c.args.at c.requires.full c.requires.here c.block_of-from.ensures c.requires.room c.length_at.result c.length_at.ensures)) c.copy.new.self c.copy.ensures

pub follow-requires : goal.follow-requires
follow-requires c = relocate-follows _ _ (stands-now c.self.invariant c.self.view_is) c.args.handle c.args.length c.block_of-from.result c.args.at c.requires.full c.requires.here c.block_of-from.ensures c.requires.room c.place_handle.new.self c.place_handle.ensures c.header_flags-flags.result (relocate-flags _ _ (stands-now c.self.invariant c.self.view_is) c.args.handle c.args.length c.block_of-from.result c.args.at c.requires.full c.requires.here c.block_of-from.ensures c.requires.room c.header_flags-flags.result c.header_flags-flags.ensures) c.set_header_flags.new.self c.set_header_flags.ensures c.min-kept.result (c.min-kept.ensures ∙ ap (λ k. min k c.args.length) (relocate-length _ _ (stands-now c.self.invariant c.self.view_is) c.args.handle c.args.length c.block_of-from.result c.args.at c.requires.full c.requires.here c.block_of-from.ensures c.requires.room c.length_at.result c.length_at.ensures)) c.copy.new.self c.copy.ensures c.set_free.new.self c.set_free.ensures (c.args.at + c.head_size.result) (ap (λ n. c.args.at + n) (head-is _ _ (stands-now c.self.invariant c.self.view_is) c.spec.result c.heads.result c.head_size.result c.spec.ensures c.heads.ensures c.head_size.ensures))

-- how it ends
ends : (c : goal.After-follow) → (room : RoomFor c.args.self.now c.args.at c.args.length) → Kept c.follow.new.records (relocated c.args.handle c.args.length c.args.self.now room.free)
ends c room = relocate-ends _ _ (stands-now c.self.invariant c.self.view_is) c.args.handle c.args.length c.block_of-from.result c.args.at c.requires.full c.requires.here c.block_of-from.ensures room c.place_handle.new.self c.place_handle.ensures c.header_flags-flags.result (relocate-flags _ _ (stands-now c.self.invariant c.self.view_is) c.args.handle c.args.length c.block_of-from.result c.args.at c.requires.full c.requires.here c.block_of-from.ensures room c.header_flags-flags.result c.header_flags-flags.ensures) c.set_header_flags.new.self c.set_header_flags.ensures c.min-kept.result (c.min-kept.ensures ∙ ap (λ k. min k c.args.length) (relocate-length _ _ (stands-now c.self.invariant c.self.view_is) c.args.handle c.args.length c.block_of-from.result c.args.at c.requires.full c.requires.here c.block_of-from.ensures room c.length_at.result c.length_at.ensures)) c.copy.new.self c.copy.ensures c.set_free.new.self c.set_free.ensures (c.args.at + c.head_size.result) (ap (λ n. c.args.at + n) (head-is _ _ (stands-now c.self.invariant c.self.view_is) c.spec.result c.heads.result c.head_size.result c.spec.ensures c.heads.ensures c.head_size.ensures))
    c.follow.new.records c.follow.ensures

pub invariant_of-self : goal.invariant_of-self
invariant_of-self c = (ends c c.requires.room).inside

pub returns : goal.returns
returns c room = (ends c room).same
