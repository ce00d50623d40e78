use Rattle.std.proofs.Common.{◌≡◌, ap, sym, subst}
use Rattle.mac_base.specs.ZoneState.{ZoneState, own_memory}
use Rattle.linked_zone.specs.Changes.{bare_zone}
use Rattle.zone_index.specs.Index.{IsBlank}
use Rattle.zone_index.proofs.zone.IndexedZone.create.Goals as goal

pub beside-requires : goal.beside-requires
beside-requires c = subst (λ n. IsBlank n c.in_ok-index.index) (sym (ap (λ (z : ZoneState). z.shape.limit) c.in_ok-zone.ensures)) c.in_ok-index.ensures

pub returns : goal.returns
returns c = subst (λ (z : ZoneState). z ≡ bare_zone (own_memory z.memory.region) c.args.spec) (sym c.beside.ensures) c.in_ok-zone.ensures
