use Rattle.zone_records.proofs.Held.{held-now, fields}
use Rattle.zone_records.proofs.Extending.{extend-ends}
use Rattle.zone_records.proofs.records.Records.extend.Goals as goal

pub invariant_of-self : goal.invariant_of-self
invariant_of-self c =
    fields _ _ (extend-ends _ _ (held-now c.self.invariant c.self.view_is) c.spec.result c.size-size.ensures.possible c.spec.ensures.size c.spec.ensures.limit c.extend.new.self c.extend.ensures)

pub returns : goal.returns
returns c =
    (extend-ends _ _ (held-now c.self.invariant c.self.view_is) c.spec.result c.size-size.ensures.possible c.spec.ensures.size c.spec.ensures.limit c.extend.new.self c.extend.ensures).shows
