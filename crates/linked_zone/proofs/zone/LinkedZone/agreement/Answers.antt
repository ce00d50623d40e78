use Rattle.linked_zone.proofs.Standing.{stands-now}
use Rattle.linked_zone.proofs.EndsStructure.{agrees-from}
use Rattle.linked_zone.proofs.zone.LinkedZone.agreement.Goals as goal

pub returns : goal.returns
returns c = agrees-from _ _ (stands-now c.self.invariant c.self.view_is) c.args.bytes.now c.agreement.result c.agreement.ensures
