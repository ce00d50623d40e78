use Rattle.std.proofs.Common.{◌+◌, ◌∙◌, sym, ap}
use Rattle.std.proofs.lemmas.Option.{IfSome_then}
use Rattle.zone_records.specs.Records.{BlockRecord}
use Rattle.zone_records.proofs.Looking.{IfNone_then}
use Rattle.linked_zone.specs.Owned.{owners_of}
use Rattle.linked_zone.proofs.Standing.{stands-now}
use Rattle.linked_zone.proofs.Located.{of-entry, of-record, no-records}
use Rattle.linked_zone.proofs.zone.LinkedZone.after.Goals as goal

pub after-requires : goal.after-requires
after-requires c = (of-entry c.self.inside.records c.args.self.now (stands-now c.self.invariant c.self.view_is).blocks c.args.at c.requires).there

pub returns-clause-next : goal.returns-clause-next
returns-clause-next c =
    IfSome_then c.after.result c.after.ensures.next (λ next is e.
    let mine = of-entry c.self.inside.records c.args.self.now (stands-now c.self.invariant c.self.view_is).blocks c.args.at e in
    is.1 mine.there ∙ ap (λ (b : BlockRecord). c.args.at + b.size) mine.here)

pub returns-clause-there : goal.returns-clause-there
returns-clause-there c =
    IfSome_then c.after.result c.after.ensures.next (λ next is. (of-record c.self.inside.records c.args.self.now (stands-now c.self.invariant c.self.view_is).blocks next is.0).entry)

pub returns-clause-last : goal.returns-clause-last
returns-clause-last c =
    let z = c.args.self.now in
    IfNone_then c.after.result c.after.ensures.last (λ last e.
    let mine = of-entry c.self.inside.records z (stands-now c.self.invariant c.self.view_is).blocks c.args.at e in
    no-records (owners_of z) z.shape (c.args.at + e.here.size) e.after (sym mine.higher ∙ last mine.there))
