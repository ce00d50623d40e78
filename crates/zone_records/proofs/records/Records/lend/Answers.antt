use Rattle.zone_records.proofs.Held.{held-now, fields}
use Rattle.zone_records.proofs.Lending.{lend-can, lend-done, lend-lent}
use Rattle.zone_records.proofs.records.Records.lend.Goals as goal

pub lend-requires : goal.lend-requires
lend-requires c = lend-can _ _ (held-now c.self.invariant c.self.view_is) c.args.at c.requires.held c.requires.few

pub invariant_of-self : goal.invariant_of-self
invariant_of-self c =
    fields _ _ (lend-done _ _ (held-now c.self.invariant c.self.view_is) c.args.at c.requires.held c.requires.few c.lend.new.self c.lend.ensures.blocks)

pub returns-clause-zone : goal.returns-clause-zone
returns-clause-zone c h =
    (lend-done _ _ (held-now c.self.invariant c.self.view_is) c.args.at h c.requires.few c.lend.new.self c.lend.ensures.blocks).shows

pub returns-clause-loan : goal.returns-clause-loan
returns-clause-loan c h =
    lend-lent _ _ (held-now c.self.invariant c.self.view_is) c.args.at h c.requires.few c.lend.result c.lend.ensures.loan
