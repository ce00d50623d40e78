use Rattle.std.proofs.lemmas.Option.{IfSome_then}
use Rattle.linked_zone.proofs.Standing.{stands-now}
use Rattle.linked_zone.proofs.EndsParts.{fault-from, whole-from}
use Rattle.linked_zone.proofs.Unlent.{nothing-lent}
use Rattle.linked_zone.proofs.zone.LinkedZone.first_fault.Goals as goal

pub first_fault-requires-clause-nothing_lent : goal.first_fault-requires-clause-nothing_lent
first_fault-requires-clause-nothing_lent c = nothing-lent _ _ (stands-now c.self.invariant c.self.view_is) c.requires.nothing_lent

pub returns-clause-fault : goal.returns-clause-fault
returns-clause-fault c = IfSome_then c.first_fault.result c.first_fault.ensures.fault (fault-from c.self.inside.records c.args.self.now (stands-now c.self.invariant c.self.view_is) c.args.bytes.now)

pub returns-clause-none : goal.returns-clause-none
returns-clause-none c = whole-from c.self.inside.records c.args.self.now (stands-now c.self.invariant c.self.view_is) c.args.bytes.now c.first_fault.result c.first_fault.ensures.none
