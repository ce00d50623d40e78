use Rattle.std.proofs.Common.{arith}
use Rattle.mac_base.specs.ZoneMap.{free_bytes}
use Rattle.zone_index.proofs.Found.{gap-within}
use Rattle.zone_index.proofs.RoomAt.{too-few}
use Rattle.zone_index.proofs.gap.has_room.Goals as goal

pub returns-then-most_room-needed : goal.returns-then-most_room-needed
returns-then-most_room-needed c gap =
    let most = gap-within c.args.zone.now c.args.start gap.rest gap.below in
    too-few c.args.needed (free_bytes gap.rest.blocks) (omega (arith, most, c.most_room.ensures, c.if-most_room-needed.true))
