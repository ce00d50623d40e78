use Rattle.std.proofs.Common.{◌∙◌}
use Rattle.linked_zone.proofs.Standing.{stands-now}
use Rattle.linked_zone.proofs.Unlent.{count-read}
use Rattle.linked_zone.proofs.zone.LinkedZone.lent_count.Goals as goal

pub returns-clause-value : goal.returns-clause-value
returns-clause-value c = c.lent_count.ensures.value ∙ count-read _ _ (stands-now c.self.invariant c.self.view_is)
