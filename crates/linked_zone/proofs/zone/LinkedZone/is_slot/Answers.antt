use Rattle.std.proofs.Common.{Contains, subst}
use Rattle.mac_base.specs.Suits.{slots}
use Rattle.linked_zone.proofs.Standing.{stands-now}
use Rattle.linked_zone.proofs.Located.{slot-of}
use Rattle.linked_zone.proofs.Found.{slot-there}
use Rattle.linked_zone.proofs.zone.LinkedZone.is_slot.Goals as goal

pub returns : goal.returns
returns c =
    let z = c.args.self.now in
    let stands = stands-now c.self.invariant c.self.view_is in (
      λ is. subst (Contains (slots z.shape z.heap.map)) c.number.ensures (slot-of c.self.inside.records z stands.blocks c.number.result (c.is_slot.ensures.0 is)),
      λ there. c.is_slot.ensures.1 (slot-there _ _ stands c.args.handle c.number.result c.number.ensures there),
    )
