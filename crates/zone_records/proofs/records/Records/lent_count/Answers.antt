use Rattle.std.proofs.Common.{◌∙◌}
use Rattle.zone_records.proofs.Held.{held-now}
use Rattle.zone_records.proofs.Lending.{count-is}
use Rattle.zone_records.proofs.records.Records.lent_count.Goals as goal

pub returns-clause-value : goal.returns-clause-value
returns-clause-value c = c.lent_count.ensures.value ∙ count-is _ _ (held-now c.self.invariant c.self.view_is)
