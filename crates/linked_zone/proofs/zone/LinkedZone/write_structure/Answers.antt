use Rattle.linked_zone.proofs.Standing.{stands-now}
use Rattle.linked_zone.proofs.EndsParts.{contents-from, others-from}
use Rattle.linked_zone.proofs.EndsStructure.{has-from, same-from}
use Rattle.linked_zone.proofs.zone.LinkedZone.write_structure.Goals as goal

pub returns-clause-same : goal.returns-clause-same
returns-clause-same c = has-from _ _ (stands-now c.self.invariant c.self.view_is) _ c.write_structure.ensures.same

pub returns-clause-flags : goal.returns-clause-flags
returns-clause-flags c = same-from _ _ (stands-now c.self.invariant c.self.view_is) _ c.write_structure.ensures.flags

pub returns-clause-others : goal.returns-clause-others
returns-clause-others c = others-from _ _ (stands-now c.self.invariant c.self.view_is) _ _ c.write_structure.ensures.others

pub returns-clause-contents : goal.returns-clause-contents
returns-clause-contents c = contents-from _ _ (stands-now c.self.invariant c.self.view_is) _ _ c.write_structure.ensures.contents
