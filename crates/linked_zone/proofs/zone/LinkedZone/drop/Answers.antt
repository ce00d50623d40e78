use Rattle.linked_zone.proofs.Standing.{stands-now}
use Rattle.linked_zone.proofs.Unlent.{nothing-lent}
use Rattle.linked_zone.proofs.zone.LinkedZone.drop.Goals as goal

pub drop-requires : goal.drop-requires
drop-requires c = record { nothing_lent = nothing-lent _ _ (stands-now c.self.invariant c.self.view_is) c.requires.nothing_lent }
