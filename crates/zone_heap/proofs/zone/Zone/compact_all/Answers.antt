use Rattle.zone_heap.proofs.Compacting.{zone-all_down}
use Rattle.zone_heap.proofs.zone.Zone.compact_all.Goals as goal

pub invariant_of-self : goal.invariant_of-self
invariant_of-self c = zone-all_down c.self.inside.pointers c.squeeze_all_down.new.zone c.self.invariant c.squeeze_all_down.ensures.settled c.squeeze_all_down.ensures.zone
