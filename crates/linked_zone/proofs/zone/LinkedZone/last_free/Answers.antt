use Rattle.std.proofs.lemmas.Option.{IfSome_then}
use Rattle.linked_zone.proofs.Standing.{stands-now}
use Rattle.linked_zone.proofs.Located.{split-at, last-free, no-free-before}
use Rattle.zone_records.proofs.Looking.{IfNone_then}
use Rattle.linked_zone.proofs.zone.LinkedZone.last_free.Goals as goal

pub last_free-requires : goal.last_free-requires
last_free-requires c =
    split-at c.self.inside.records c.args.self.now (stands-now c.self.invariant c.self.view_is).blocks c.args.end c.requires

pub returns-clause-last : goal.returns-clause-last
returns-clause-last c =
    IfSome_then c.last_free.result c.last_free.ensures.last (λ at finds split. last-free c.self.inside.records c.args.self.now (stands-now c.self.invariant c.self.view_is).blocks c.args.end split at finds)

pub returns-clause-none : goal.returns-clause-none
returns-clause-none c =
    IfNone_then c.last_free.result c.last_free.ensures.none (λ none split. no-free-before c.self.inside.records c.args.self.now (stands-now c.self.invariant c.self.view_is).blocks c.args.end split none)
