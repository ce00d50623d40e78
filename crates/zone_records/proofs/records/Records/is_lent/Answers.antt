use Rattle.std.proofs.Common.{◌∙◌, ap}
use Rattle.zone_records.specs.Records.{BlockRecord}
use Rattle.zone_records.proofs.Held.{held-now}
use Rattle.zone_records.proofs.Looking.{of-record}
use Rattle.zone_records.proofs.records.Records.is_lent.Goals as goal

pub is_lent-requires : goal.is_lent-requires
is_lent-requires c = (of-record _ _ (held-now c.self.invariant c.self.view_is) c.args.at c.requires).block

pub returns : goal.returns
returns c r =
    let o = of-record _ _ (held-now c.self.invariant c.self.view_is) c.args.at r in
    c.is_lent.ensures o.block ∙ ap (λ (r : BlockRecord). r.lent) o.same
