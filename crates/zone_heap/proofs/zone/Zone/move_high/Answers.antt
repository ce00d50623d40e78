use Rattle.zone_heap.proofs.Compacting.{zone-moved_high}
use Rattle.zone_heap.proofs.zone.Zone.move_high.Goals as goal

pub invariant_of-self : goal.invariant_of-self
invariant_of-self c = zone-moved_high c.self.inside.pointers c.raise.new.zone c.self.invariant c.raise.ensures.settled c.args.handle c.raise.ensures.zone
