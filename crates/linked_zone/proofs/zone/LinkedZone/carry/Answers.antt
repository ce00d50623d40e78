use Rattle.linked_zone.specs.Changes.{carried_up}
use Rattle.linked_zone.specs.Places.{ParcelAt}
use Rattle.linked_zone.proofs.Standing.{Kept, stands-now}
use Rattle.linked_zone.proofs.EndsTurned.{carry-can, carry-misplaced, carry-ends}
use Rattle.linked_zone.proofs.zone.LinkedZone.carry.Goals as goal

pub carry-requires : goal.carry-requires
carry-requires c = carry-can _ _ (stands-now c.self.invariant c.self.view_is) c.requires

pub follow_run-requires : goal.follow_run-requires
follow_run-requires c = carry-misplaced _ _ (stands-now c.self.invariant c.self.view_is) c.requires c.carry.new.self c.carry.ensures

-- how it ends
ends : (c : goal.After-follow_run) (parcel : ParcelAt c.args.self.now c.args.at c.args.end) → Kept c.follow_run.new.records (carried_up c.args.self.now parcel)
ends c parcel = carry-ends _ _ (stands-now c.self.invariant c.self.view_is) parcel c.carry.new.self c.carry.ensures c.follow_run.new.records c.follow_run.ensures

pub invariant_of-self : goal.invariant_of-self
invariant_of-self c = (ends c c.requires).inside

pub returns : goal.returns
returns c parcel = (ends c parcel).same
