use Rattle.std.proofs.Common.{refl, subst}
use Rattle.linked_zone.specs.Structure.{Agrees}
use Rattle.mem_calls.proofs.waking.take_flags.Goals as goal

pub returns-in-Damaged-clause-damaged : goal.returns-in-Damaged-clause-damaged
returns-in-Damaged-clause-damaged c = λ _. (subst (Agrees c.args.zone.now c.args.bytes.now) c.in-Damaged.is c.requires.agrees, refl)

pub set_changed-requires-clause-same : goal.set_changed-requires-clause-same
set_changed-requires-clause-same c = (subst (Agrees c.args.zone.now c.args.bytes.now) c.in-FlagsChanged.is c.requires.agrees).0

pub returns-in-FlagsChanged-clause-same : goal.returns-in-FlagsChanged-clause-same
returns-in-FlagsChanged-clause-same c = λ _. ((subst (Agrees c.args.zone.now c.args.bytes.now) c.in-FlagsChanged.is c.requires.agrees).0, c.set_changed.ensures)

pub returns-in-Same-clause-same : goal.returns-in-Same-clause-same
returns-in-Same-clause-same c = λ _. let both = subst (Agrees c.args.zone.now c.args.bytes.now) c.in-Same.is c.requires.agrees in (both.0, record { flags = both.1; others = refl; sound = c.requires.sound })
