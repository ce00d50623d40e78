use Rattle.std.proofs.Common.{refl, ◌∙◌}
use Rattle.zone_records.proofs.Held.{held-now, fields}
use Rattle.zone_records.proofs.Holding.{held-block, held-bytes, lent-kept}
use Rattle.zone_records.proofs.records.Records.contents_mut.Goals as goal

pub contents_mut-requires : goal.contents_mut-requires
contents_mut-requires c = record { block = held-block _ _ (held-now c.self.invariant c.self.view_is) c.args.at c.requires.held }

pub invariant_of-self-lent : goal.invariant_of-self-lent
invariant_of-self-lent c ws =
    fields _ _ (lent-kept _ _ (held-now c.self.invariant c.self.view_is) c.args.at c.requires.held ws)

pub returns : goal.returns
returns c =
    let held = held-now c.self.invariant c.self.view_is in (
      (refl, λ ws. (lent-kept _ _ held c.args.at c.requires.held ws).shows),
      record { writes_back = tt; value = λ h. c.contents_mut.ensures.value (held-block _ _ held c.args.at h).block ∙ held-bytes _ _ held c.args.at h },
    )
