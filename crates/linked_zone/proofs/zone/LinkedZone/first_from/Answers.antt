use Rattle.std.proofs.lemmas.Option.{IfSome_then}
use Rattle.linked_zone.proofs.Standing.{stands-now}
use Rattle.linked_zone.proofs.Located.{first-from, none-from}
use Rattle.zone_records.proofs.Looking.{IfNone_then}
use Rattle.linked_zone.proofs.zone.LinkedZone.first_from.Goals as goal

pub returns-clause-first : goal.returns-clause-first
returns-clause-first c =
    IfSome_then c.first_from.result c.first_from.ensures.first (first-from c.self.inside.records c.args.self.now (stands-now c.self.invariant c.self.view_is).blocks c.args.from)

pub returns-clause-none : goal.returns-clause-none
returns-clause-none c =
    IfNone_then c.first_from.result c.first_from.ensures.none (none-from c.self.inside.records c.args.self.now (stands-now c.self.invariant c.self.view_is).blocks c.args.from)
