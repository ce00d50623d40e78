use Rattle.std.proofs.lemmas.Option.{IfSome_then}
use Rattle.zone_records.proofs.Held.{held-now}
use Rattle.zone_records.proofs.Looking.{IfNone_then, first-from, none-from}
use Rattle.zone_records.proofs.records.Records.first_from.Goals as goal

pub returns-clause-first : goal.returns-clause-first
returns-clause-first c =
    IfSome_then c.first_from.result c.first_from.ensures.first (first-from _ _ (held-now c.self.invariant c.self.view_is) c.args.from)

pub returns-clause-none : goal.returns-clause-none
returns-clause-none c =
    IfNone_then c.first_from.result c.first_from.ensures.none (none-from _ _ (held-now c.self.invariant c.self.view_is) c.args.from)
