use Rattle.std.proofs.lemmas.Option.{IfSome_then}
use Rattle.zone_records.proofs.Held.{held-now}
use Rattle.zone_records.proofs.Looking.{IfNone_then, of-block, ends-there, nothing-before}
use Rattle.zone_records.proofs.records.Records.before.Goals as goal

pub returns-clause-last : goal.returns-clause-last
returns-clause-last c =
    let held = held-now c.self.invariant c.self.view_is in
    IfSome_then c.holder.result c.holder.ensures.holds (λ last holds. (of-block _ _ held last holds.block, ends-there _ _ held c.args.at last c.requires holds))

pub returns-clause-first : goal.returns-clause-first
returns-clause-first c =
    IfNone_then c.holder.result c.holder.ensures.outside (nothing-before _ _ (held-now c.self.invariant c.self.view_is) c.args.at)
