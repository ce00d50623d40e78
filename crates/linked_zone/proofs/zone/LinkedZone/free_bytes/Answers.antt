use Rattle.std.proofs.Common.{[], ap, ◌∙◌}
use Rattle.mac_base.specs.ZoneMap.{address_after}
use Rattle.zone_records.specs.Places.{free_total}
use Rattle.zone_records.specs.Records.{ZoneRecords}
use Rattle.linked_zone.specs.Owned.{owners_of}
use Rattle.linked_zone.proofs.Standing.{stands-now}
use Rattle.linked_zone.proofs.Located.{free_bytes-same}
use Rattle.linked_zone.proofs.zone.LinkedZone.free_bytes.Goals as goal

pub returns : goal.returns
returns c =
    let z = c.args.self.now in
    c.free_bytes.ensures ∙ ap (λ (r : ZoneRecords). free_total r.blocks) (stands-now c.self.invariant c.self.view_is).blocks ∙ free_bytes-same (owners_of z) z.shape (address_after z.shape []) z.heap.map
