use Rattle.zone_records.proofs.Held.{held-now, fields}
use Rattle.zone_records.proofs.Holding.{held-block}
use Rattle.zone_records.proofs.Freeing.{empty-ends}
use Rattle.zone_records.proofs.records.Records.set_free.Goals as goal

pub set_free-requires : goal.set_free-requires
set_free-requires c = held-block _ _ (held-now c.self.invariant c.self.view_is) c.args.at c.requires

pub invariant_of-self : goal.invariant_of-self
invariant_of-self c =
    fields _ _ (empty-ends _ _ (held-now c.self.invariant c.self.view_is) c.args.at c.requires c.set_free.new.self c.set_free.ensures)

pub returns : goal.returns
returns c h =
    (empty-ends _ _ (held-now c.self.invariant c.self.view_is) c.args.at h c.set_free.new.self c.set_free.ensures).shows
