use Rattle.std.proofs.Common.{◌≡◌, sym, subst}
use Rattle.zone_records.specs.Places as places
use Rattle.zone_records.specs.Records.{ZoneRecords}
use Rattle.linked_zone.proofs.Standing.{stands-now}
use Rattle.linked_zone.proofs.EndsSwapped.{free-there}
use Rattle.linked_zone.proofs.zone.LinkedZone.free_size.Goals as goal

pub free_size-requires : goal.free_size-requires
free_size-requires c =
    let stands = stands-now c.self.invariant c.self.view_is in
    subst (λ r. places.FreeAt r c.args.at) (sym stands.blocks) (free-there _ _ stands c.args.at c.requires)

pub returns : goal.returns
returns c f =
    let stands = stands-now c.self.invariant c.self.view_is in
    subst (λ (r : ZoneRecords). (g : places.FreeAt r c.args.at) → c.free_size.result ≡ g.size) stands.blocks c.free_size.ensures (free-there _ _ stands c.args.at f)
