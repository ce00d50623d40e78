use Rattle.std.proofs.Common.{◌∙◌, ap, not, sym, subst}
use Rattle.std.specs.List.{list_all}
use Rattle.zone_records.specs.Records.{ZoneRecords}
use Rattle.zone_records.specs.Structure.{IsIn}
use Rattle.zone_records.proofs.Freeing.{none-lent}
use Rattle.zone_records.proofs.Held.{held-now}
use Rattle.zone_records.proofs.Structures.{in-image}
use Rattle.zone_records.proofs.records.Records.into_region.Goals as goal

pub into_region-requires : goal.into_region-requires
into_region-requires c = let l = c.self.inside.blocks in
    record { nothing_lent = none-lent l.heads l.base l.blocks (ap (λ (z : ZoneRecords). list_all (λ b. not b.lent) z.blocks) c.self.view_is ∙ c.requires.nothing_lent) }

pub returns-clause-bytes : goal.returns-clause-bytes
returns-clause-bytes c = subst (IsIn c.args.self) (sym c.into_region.ensures.bytes) (in-image c.self.inside.blocks c.args.self (held-now c.self.invariant c.self.view_is))
