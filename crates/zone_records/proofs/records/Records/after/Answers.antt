use Rattle.std.proofs.Common.{◌+◌, ◌∙◌, ap}
use Rattle.std.proofs.lemmas.Option.{IfSome_then}
use Rattle.zone_records.proofs.Held.{held-now}
use Rattle.zone_records.proofs.Looking.{IfNone_then, of-record, of-block, size-of, nothing-after}
use Rattle.zone_records.proofs.records.Records.after.Goals as goal

pub walk-requires : goal.walk-requires
walk-requires c = (of-record _ _ (held-now c.self.invariant c.self.view_is) c.args.at c.requires).block

pub returns-clause-next : goal.returns-clause-next
returns-clause-next c =
    let held = held-now c.self.invariant c.self.view_is in
    IfSome_then c.walk.result c.walk.ensures.next (λ next is. (
      of-block _ _ held next is.0,
      λ r. is.1 (of-record _ _ held c.args.at r).block ∙ ap (λ n. c.args.at + n) (size-of _ _ held c.args.at r),
    ))

pub returns-clause-last : goal.returns-clause-last
returns-clause-last c =
    IfNone_then c.walk.result c.walk.ensures.last (nothing-after _ _ (held-now c.self.invariant c.self.view_is) c.args.at)
