use Rattle.std.proofs.lemmas.Option.{IfSome_then}
use Rattle.linked_zone.proofs.Standing.{stands-now}
use Rattle.linked_zone.proofs.Located.{split-at, first-free, no-free}
use Rattle.zone_records.proofs.Looking.{IfNone_then}
use Rattle.linked_zone.proofs.zone.LinkedZone.next_free.Goals as goal

pub next_free-requires : goal.next_free-requires
next_free-requires c =
    split-at c.self.inside.records c.args.self.now (stands-now c.self.invariant c.self.view_is).blocks c.args.from c.requires

pub returns-clause-next : goal.returns-clause-next
returns-clause-next c =
    IfSome_then c.next_free.result c.next_free.ensures.next (λ at finds split. first-free c.self.inside.records c.args.self.now (stands-now c.self.invariant c.self.view_is).blocks c.args.from split at finds)

pub returns-clause-none : goal.returns-clause-none
returns-clause-none c =
    IfNone_then c.next_free.result c.next_free.ensures.none (λ none split. no-free c.self.inside.records c.args.self.now (stands-now c.self.invariant c.self.view_is).blocks c.args.from split none)
