use Rattle.std.proofs.Common.{◌∙◌, ap}
use Rattle.zone_records.specs.Records.{ZoneRecords}
use Rattle.zone_records.specs.Places.{free_total}
use Rattle.zone_records.proofs.FirstFree.{free_total-same}
use Rattle.zone_records.proofs.records.Records.free_bytes.Goals as goal

pub returns : goal.returns
returns c =
    let l = c.self.inside.blocks in
    c.free_bytes.ensures ∙ free_total-same l.heads l.base l.blocks ∙ ap (λ (z : ZoneRecords). free_total z.blocks) c.self.view_is
