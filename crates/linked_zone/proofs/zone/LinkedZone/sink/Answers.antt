use Rattle.std.proofs.Common.{arith}
use Rattle.linked_zone.specs.Changes.{sunk}
use Rattle.linked_zone.specs.Places.{ParcelUpTo}
use Rattle.linked_zone.proofs.Standing.{Kept, stands-now}
use Rattle.linked_zone.proofs.EndsTurned.{sink-there, sink-size, sink-range, sink-can, sink-misplaced, sink-ends}
use Rattle.linked_zone.proofs.zone.LinkedZone.sink.Goals as goal

pub entry_at-requires : goal.entry_at-requires
entry_at-requires c = sink-there _ _ (stands-now c.self.invariant c.self.view_is) c.requires

pub overflow_add-end : goal.overflow_add-end
overflow_add-end c =
    let size = sink-size _ _ (stands-now c.self.invariant c.self.view_is) c.requires c.entry_at.result c.entry_at.ensures in
    let range = sink-range _ _ (stands-now c.self.invariant c.self.view_is) c.requires in omega arith

pub sink-requires : goal.sink-requires
sink-requires c = sink-can _ _ (stands-now c.self.invariant c.self.view_is) c.requires

pub follow_run-requires : goal.follow_run-requires
follow_run-requires c =
    let size = sink-size _ _ (stands-now c.self.invariant c.self.view_is) c.requires c.entry_at.result c.entry_at.ensures in
    sink-misplaced _ _ (stands-now c.self.invariant c.self.view_is) c.requires c.entry_at.result.size size c.sink.new.self c.sink.ensures

-- how it ends
ends : (c : goal.After-follow_run) (parcel : ParcelUpTo c.args.self.now c.args.start c.args.at) → Kept c.follow_run.new.records (sunk c.args.self.now parcel)
ends c parcel =
    let size = sink-size _ _ (stands-now c.self.invariant c.self.view_is) parcel c.entry_at.result c.entry_at.ensures in
    sink-ends _ _ (stands-now c.self.invariant c.self.view_is) parcel c.entry_at.result.size size c.sink.new.self c.sink.ensures c.follow_run.new.records c.follow_run.ensures

pub invariant_of-self : goal.invariant_of-self
invariant_of-self c = (ends c c.requires).inside

pub returns : goal.returns
returns c parcel = (ends c parcel).same
