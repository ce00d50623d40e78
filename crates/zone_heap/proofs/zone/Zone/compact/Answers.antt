use Rattle.std.proofs.Common.{◌<◌, ◌∙◌, ap, arith}
use Rattle.mac_base.specs.ZoneMap.{largest_free}
use Rattle.mac_base.specs.ZoneState.{ZoneState}
use Rattle.linked_zone.specs.Changes.{with_map}
use Rattle.zone_heap.proofs.Compacting.{compacted-squeezed, zone-compacted}
use Rattle.zone_heap.proofs.zone.Zone.compact.Goals as goal

pub invariant_of-self : goal.invariant_of-self
invariant_of-self c =
    let z = c.self.inside.pointers in
    let small : largest_free z.heap.map < c.args.needed = omega (arith, c.largest_free-largest.ensures.largest, ap (λ (z : ZoneState). largest_free z.heap.map) (c.self.view_is ∙ c.largest_free-largest.ensures.zone), c.if-needed-largest.false) in
    zone-compacted z c.squeeze.new.pointers c.self.invariant c.squeeze.ensures.settled c.args.needed
    (c.squeeze.ensures.zone ∙ ap (λ m. with_map m z) (compacted-squeezed z.heap.table c.args.needed z.heap.map small))
