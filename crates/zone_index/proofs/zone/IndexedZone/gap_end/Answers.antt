use Rattle.std.proofs.Common.{◌≡◌, ◌+◌, subst}
use Rattle.mac_base.specs.ZoneMap.{total_size}
use Rattle.mac_base.specs.ZoneState.{ZoneState}
use Rattle.zone_index.specs.Runs.{RestAt}
use Rattle.zone_index.proofs.zone.IndexedZone.gap_end.Goals as goal

pub returns : goal.returns
returns c = subst (λ (z : ZoneState). (rest : RestAt z c.args.start) → c.gap_end.result ≡ c.args.start + total_size rest.blocks) c.self.view_is c.gap_end.ensures
