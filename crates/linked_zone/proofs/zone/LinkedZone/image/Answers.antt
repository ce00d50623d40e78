use Rattle.std.proofs.Common.{subst}
use Rattle.zone_records.specs.Image.{HasBytes}
use Rattle.zone_records.specs.Records.{ZoneRecords}
use Rattle.block_bytes.specs.Walk.{Walks}
use Rattle.linked_zone.proofs.Standing.{stands-now}
use Rattle.linked_zone.proofs.Unlent.{nothing-lent}
use Rattle.linked_zone.proofs.zone.LinkedZone.image.Goals as goal

pub image-requires : goal.image-requires
image-requires c = record { nothing_lent = nothing-lent _ _ (stands-now c.self.invariant c.self.view_is) c.requires.nothing_lent }

pub returns-clause-form : goal.returns-clause-form
returns-clause-form c =
    subst (λ (r : ZoneRecords). HasBytes r c.image.result.now) (stands-now c.self.invariant c.self.view_is).blocks c.image.ensures.bytes

pub returns-clause-walks : goal.returns-clause-walks
returns-clause-walks c =
    subst (λ (r : ZoneRecords). Walks r.shape.heads c.image.result.now) (stands-now c.self.invariant c.self.view_is).blocks c.image.ensures.walks
