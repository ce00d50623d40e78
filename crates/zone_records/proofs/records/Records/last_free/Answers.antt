use Rattle.std.proofs.lemmas.Option.{IfSome_then}
use Rattle.zone_records.proofs.Held.{held-now}
use Rattle.zone_records.proofs.Looking.{IfNone_then}
use Rattle.zone_records.proofs.FirstFree.{raw-split, last-free, none-before}
use Rattle.zone_records.proofs.records.Records.last_free.Goals as goal

pub last_free-requires : goal.last_free-requires
last_free-requires c = raw-split _ _ (held-now c.self.invariant c.self.view_is) c.args.end c.requires

pub returns-clause-last : goal.returns-clause-last
returns-clause-last c = let held = held-now c.self.invariant c.self.view_is in IfSome_then c.last_free.result c.last_free.ensures.last (λ at found split. last-free _ _ held c.args.end split at (found (raw-split _ _ held c.args.end split)))

pub returns-clause-none : goal.returns-clause-none
returns-clause-none c = let held = held-now c.self.invariant c.self.view_is in IfNone_then c.last_free.result c.last_free.ensures.none (λ none split. none-before _ _ held c.args.end split (none (raw-split _ _ held c.args.end split)))
