use Rattle.std.proofs.Common.{◌+◌, ◌∙◌, ap}
use Rattle.mac_base.specs.HeadKind.{head_size}
use Rattle.mac_base.specs.ZoneMap.{block}
use Rattle.zone_records.specs.Records.{ZoneRecords, kind_of}
use Rattle.linked_zone.proofs.Standing.{stands-now}
use Rattle.linked_zone.proofs.Located.{of-entry, entry-read}
use Rattle.linked_zone.proofs.zone.LinkedZone.entry_at.Goals as goal

pub entry_at-requires : goal.entry_at-requires
entry_at-requires c = (of-entry c.self.inside.records c.args.self.now (stands-now c.self.invariant c.self.view_is).blocks c.args.at c.requires).there

pub returns : goal.returns
returns c e =
    let stands = stands-now c.self.invariant c.self.view_is in
    let mine = of-entry c.self.inside.records c.args.self.now stands.blocks c.args.at e in
    let b = mine.there.here in
    c.entry_at.ensures mine.there ∙ ap (λ (r : ZoneRecords). block (kind_of (c.args.at + head_size r.shape.heads) b.content) b.size) stands.blocks
    ∙ entry-read c.args.self.now stands.fits stands.rooms c.args.at e b mine.here
