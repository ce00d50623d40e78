use Rattle.std.proofs.Common.{◌∙◌, ap}
use Rattle.mac_base.specs.ZoneState.{Memory, woken_in}
use Rattle.zone_records.specs.Records.{ZoneRecords}
use Rattle.zone_records.specs.Structure as records
use Rattle.linked_zone.specs.Structure.{shown}
use Rattle.linked_zone.proofs.Standing.{Kept, stands-now}
use Rattle.linked_zone.proofs.Unlent.{nothing-lent}
use Rattle.linked_zone.proofs.EndsStructure.{has-to, same-to, exchanged}
use Rattle.linked_zone.proofs.zone.LinkedZone.wake.Goals as goal

pub wake-requires-clause-nothing_lent : goal.wake-requires-clause-nothing_lent
wake-requires-clause-nothing_lent c = nothing-lent _ _ (stands-now c.self.invariant c.self.view_is) c.requires.nothing_lent

pub wake-requires-clause-asleep : goal.wake-requires-clause-asleep
wake-requires-clause-asleep c = ap (λ (r : ZoneRecords). r.memory.kept) (stands-now c.self.invariant c.self.view_is).blocks ∙ c.requires.asleep

pub wake-requires-clause-same : goal.wake-requires-clause-same
wake-requires-clause-same c = has-to _ _ (stands-now c.self.invariant c.self.view_is) c.args.region.bytes c.requires.same

pub wake-requires-clause-flags : goal.wake-requires-clause-flags
wake-requires-clause-flags c = same-to _ _ (stands-now c.self.invariant c.self.view_is) c.args.region.bytes c.requires.flags

-- how it ends
ends : (c : goal.After-wake) → Kept c.wake.new.self (record (shown c.args.self.now c.args.region.bytes) { memory = woken_in c.args.self.now.memory c.args.region.name })
ends c =
    let held = stands-now c.self.invariant c.self.view_is in
    let bytes = c.args.region.bytes in
    exchanged _ _ held bytes c.wake.new.self (woken_in c.args.self.now.memory c.args.region.name)
    (c.wake.ensures ∙ ap (λ (m : Memory). record (records.shown c.self.inside.records bytes) { memory = woken_in m c.args.region.name }) (ap (λ (r : ZoneRecords). r.memory) held.blocks))

pub invariant_of-self : goal.invariant_of-self
invariant_of-self c = (ends c).inside

pub returns : goal.returns
returns c = (ends c).same
