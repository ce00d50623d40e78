use Rattle.std.proofs.Common.{◌∙◌, ◌+◌, ap}
use Rattle.mac_base.specs.HeadKind.{head_size}
use Rattle.zone_records.specs.Records.{BlockRecord, length_of}
use Rattle.linked_zone.proofs.Standing.{stands-now}
use Rattle.linked_zone.proofs.Located.{of-entry}
use Rattle.linked_zone.proofs.Found.{length-wanted}
use Rattle.linked_zone.proofs.zone.LinkedZone.length_at.Goals as goal

pub length_at-requires : goal.length_at-requires
length_at-requires c = (of-entry c.self.inside.records c.args.self.now (stands-now c.self.invariant c.self.view_is).blocks c.args.at c.requires).there

pub returns : goal.returns
returns c e =
    let z = c.args.self.now in
    let mine = of-entry c.self.inside.records z (stands-now c.self.invariant c.self.view_is).blocks c.args.at e in
    c.length_at.ensures mine.there ∙ ap (λ (b : BlockRecord). length_of b.content) mine.here ∙ length-wanted z (c.args.at + head_size z.shape.heads) e.here.kind
