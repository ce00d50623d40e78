use Rattle.std.proofs.Common.{[], ◌+◌, ◌∙◌, sym, ap}
use Rattle.std.proofs.lemmas.Option.{IfSome_then}
use Rattle.mac_base.specs.ZoneMap.{address_after}
use Rattle.zone_records.specs.Records.{BlockRecord}
use Rattle.zone_records.proofs.Looking.{IfNone_then}
use Rattle.linked_zone.specs.Owned.{owners_of}
use Rattle.linked_zone.proofs.Standing.{stands-now}
use Rattle.linked_zone.proofs.Located.{of-entry, of-record, no-records}
use Rattle.linked_zone.proofs.zone.LinkedZone.before.Goals as goal

pub before-requires : goal.before-requires
before-requires c = (of-entry c.self.inside.records c.args.self.now (stands-now c.self.invariant c.self.view_is).blocks c.args.at c.requires).there

pub returns-clause-there : goal.returns-clause-there
returns-clause-there c =
    IfSome_then c.before-2.result c.before-2.ensures.last (λ last is. (of-record c.self.inside.records c.args.self.now (stands-now c.self.invariant c.self.view_is).blocks last is.0).entry)

pub returns-clause-next : goal.returns-clause-next
returns-clause-next c =
    IfSome_then c.before-2.result c.before-2.ensures.last (λ last is e.
    let mine = of-entry c.self.inside.records c.args.self.now (stands-now c.self.invariant c.self.view_is).blocks last e in
    is.1 mine.there ∙ ap (λ (b : BlockRecord). last + b.size) mine.here)

pub returns-clause-first : goal.returns-clause-first
returns-clause-first c =
    let z = c.args.self.now in
    IfNone_then c.before-2.result c.before-2.ensures.first (λ first e.
    let mine = of-entry c.self.inside.records z (stands-now c.self.invariant c.self.view_is).blocks c.args.at e in
    no-records (owners_of z) z.shape (address_after z.shape []) e.before (sym mine.lower ∙ first mine.there))
