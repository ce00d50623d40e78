use Rattle.std.proofs.Common.{◌≡◌, subst}
use Rattle.std.specs.Prelude.{nat_le}
use Rattle.mac_base.specs.ZoneMap.{free_bytes}
use Rattle.mac_base.specs.ZoneState.{ZoneState}
use Rattle.zone_index.specs.Gaps.{GapAt}
use Rattle.zone_index.proofs.zone.IndexedZone.has_room_at.Goals as goal

pub returns-clause-room : goal.returns-clause-room
returns-clause-room c =
    subst (λ (z : ZoneState). (gap : GapAt z c.args.start) → c.has_room.result ≡ nat_le c.args.needed (free_bytes gap.rest.blocks)) c.self.view_is c.has_room.ensures
