use Rattle.zone_records.proofs.Held.{held-now, fields}
use Rattle.zone_records.proofs.Lending.{back-is, back-ends}
use Rattle.zone_records.proofs.records.Records.give_back.Goals as goal

pub give_back-requires : goal.give_back-requires
give_back-requires c = back-is _ _ (held-now c.self.invariant c.self.view_is) c.args.at c.args.loan c.requires

pub invariant_of-self : goal.invariant_of-self
invariant_of-self c =
    fields _ _ (back-ends _ _ (held-now c.self.invariant c.self.view_is) c.args.at c.args.loan c.requires c.give_back.new.self c.give_back.ensures)

pub returns : goal.returns
returns c is =
    (back-ends _ _ (held-now c.self.invariant c.self.view_is) c.args.at c.args.loan is c.give_back.new.self c.give_back.ensures).shows
