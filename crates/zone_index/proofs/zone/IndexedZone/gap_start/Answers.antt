use Rattle.std.proofs.Common.{◌≡◌, ◌+◌, subst}
use Rattle.mac_base.specs.ZoneMap.{total_size}
use Rattle.mac_base.specs.ZoneState.{ZoneState}
use Rattle.zone_index.specs.Runs.{FrontAt}
use Rattle.zone_index.proofs.zone.IndexedZone.gap_start.Goals as goal

pub returns : goal.returns
returns c = subst (λ (z : ZoneState). (front : FrontAt z c.args.end) → c.gap_start.result + total_size front.blocks ≡ c.args.end) c.self.view_is c.gap_start.ensures
