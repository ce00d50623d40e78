use Rattle.linked_zone.proofs.Standing.{stands-now}
use Rattle.linked_zone.proofs.EndsParts.{holder-none, holder-some, outside-from, outside-none}
use Rattle.linked_zone.proofs.zone.LinkedZone.holder.Goals as goal

pub returns-in_err-start-clause-outside : goal.returns-in_err-start-clause-outside
returns-in_err-start-clause-outside c =
    let stands = stands-now c.self.invariant c.self.view_is in
    outside-none _ _ stands c.args.at c.from_residual.result (outside-from _ _ stands c.args.at c.in_err-start.ensures.outside)

pub returns-clause-holds : goal.returns-clause-holds
returns-clause-holds c = holder-some _ _ (stands-now c.self.invariant c.self.view_is) c.args.at c.in_ok-start.start c.in_ok-start.ensures.holds c.entry.result c.entry.ensures

pub returns-clause-outside : goal.returns-clause-outside
returns-clause-outside c = holder-none _ _ (stands-now c.self.invariant c.self.view_is) c.args.at c.in_ok-start.start c.in_ok-start.ensures.holds c.entry.result c.entry.ensures
