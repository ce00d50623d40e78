use Rattle.mac_base.specs.ZoneState.{own_memory}
use Rattle.linked_zone.specs.Changes.{bare_zone}
use Rattle.linked_zone.proofs.Standing.{Kept, kept}
use Rattle.linked_zone.proofs.Bare.{bare-stands}
use Rattle.linked_zone.proofs.zone.LinkedZone.create.Goals as goal

-- how it ends
ends : (c : goal.In_ok-create) → Kept c.in_ok-create.field-0 (bare_zone (own_memory c.in_ok-create.field-0.memory.region) c.args.spec)
ends c = kept c.in_ok-create.field-0 (bare_zone (own_memory c.in_ok-create.field-0.memory.region) c.args.spec) (bare-stands c.in_ok-create.field-0 (own_memory c.in_ok-create.field-0.memory.region) c.args.spec c.base-starts_high_enough.ensures.possible c.in_ok-create.ensures)

pub invariant_of-result : goal.invariant_of-result
invariant_of-result c = (ends c).inside

pub returns : goal.returns
returns c = (ends c).same
