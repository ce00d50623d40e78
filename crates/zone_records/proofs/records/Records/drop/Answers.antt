use Rattle.std.proofs.Common.{◌∙◌, ap, not}
use Rattle.std.specs.List.{list_all}
use Rattle.zone_records.specs.Records.{ZoneRecords}
use Rattle.zone_records.proofs.Freeing.{none-lent}
use Rattle.zone_records.proofs.records.Records.drop.Goals as goal

pub drop-requires : goal.drop-requires
drop-requires c = let l = c.self.inside.blocks in
    record { nothing_lent = none-lent l.heads l.base l.blocks (ap (λ (z : ZoneRecords). list_all (λ b. not b.lent) z.blocks) c.self.view_is ∙ c.requires.nothing_lent) }
