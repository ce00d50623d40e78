use Rattle.std.proofs.lemmas.Option.{IfSome_then}
use Rattle.zone_records.proofs.Held.{held-now}
use Rattle.zone_records.proofs.Looking.{IfNone_then}
use Rattle.zone_records.proofs.FirstFree.{raw-split, first-free, none-after}
use Rattle.zone_records.proofs.records.Records.next_free.Goals as goal

pub next_free-requires : goal.next_free-requires
next_free-requires c = raw-split _ _ (held-now c.self.invariant c.self.view_is) c.args.from c.requires

pub returns-clause-next : goal.returns-clause-next
returns-clause-next c = let held = held-now c.self.invariant c.self.view_is in IfSome_then c.next_free.result c.next_free.ensures.next (λ at found split. first-free _ _ held c.args.from split at (found (raw-split _ _ held c.args.from split)))

pub returns-clause-none : goal.returns-clause-none
returns-clause-none c = let held = held-now c.self.invariant c.self.view_is in IfNone_then c.next_free.result c.next_free.ensures.none (λ none split. none-after _ _ held c.args.from split (none (raw-split _ _ held c.args.from split)))
