use Rattle.linked_zone.proofs.Standing.{stands-now}
use Rattle.linked_zone.proofs.EndsAsleep.{differ-to}
use Rattle.linked_zone.proofs.EndsStructure.{agrees-from}
use Rattle.linked_zone.proofs.zone.LinkedZone.agreement_in.Goals as goal

pub agreement_in-requires : goal.agreement_in-requires
agreement_in-requires c = record { told = differ-to _ _ (stands-now c.self.invariant c.self.view_is) c.args.bytes.now c.args.written.now c.requires.told }

pub returns : goal.returns
returns c = agrees-from _ _ (stands-now c.self.invariant c.self.view_is) c.args.bytes.now c.agreement_in.result c.agreement_in.ensures
