use Rattle.std.proofs.lemmas.Option.{IfSome_then}
use Rattle.zone_records.proofs.Held.{held-now}
use Rattle.zone_records.proofs.Kept.{holds-from, outside-from}
use Rattle.zone_records.proofs.Looking.{IfNone_then}
use Rattle.zone_records.proofs.records.Records.holder.Goals as goal

pub returns-clause-holds : goal.returns-clause-holds
returns-clause-holds c = IfSome_then c.holder.result c.holder.ensures.holds (holds-from c.self.inside.blocks c.args.self.now (held-now c.self.invariant c.self.view_is) c.args.at)

pub returns-clause-outside : goal.returns-clause-outside
returns-clause-outside c = IfNone_then c.holder.result c.holder.ensures.outside (outside-from c.self.inside.blocks c.args.self.now (held-now c.self.invariant c.self.view_is) c.args.at)
