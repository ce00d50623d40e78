use Rattle.std.proofs.Common.{◌≡◌, subst}
use Rattle.zone_records.specs.Places.{SlotAt}
use Rattle.zone_records.specs.Records.{ZoneRecords}
use Rattle.zone_records.proofs.records.Records.slot.Goals as goal

pub returns : goal.returns
returns c = subst (λ (z : ZoneRecords). (s : SlotAt z c.args.at) → c.slot.result ≡ s.here) c.self.view_is c.slot.ensures
