use Rattle.std.proofs.Common.{◌≡◌, ◌++◌, ◌∙◌, sym, subst}
use Rattle.mac_base.specs.Arrangement.{down}
use Rattle.mac_base.specs.ZoneState.{ZoneState}
use Rattle.linked_zone.specs.Changes.{with_map}
use Rattle.linked_zone.specs.Loans.{KeepsLoans}
use Rattle.zone_heap.specs.Gaps.{AroundAt}
use Rattle.zone_heap.proofs.Around.{none_partly, around_entry, partly_on, partly_all}
use Rattle.zone_heap.proofs.arrange.squeeze_all_down.Goals as goal

pub gaps-init : goal.gaps-init
gaps-init c = none_partly c.args.zone.now c.requires

pub returns-in_default-clause-zone : goal.returns-in_default-clause-zone
returns-in_default-clause-zone c =
    c.first_out_of_order.ensures.zone ∙ partly_all c.args.zone.now c.gaps.zone c.gaps.invariant c.in_default.ensures.first

pub squeeze_around-requires-clause-around : goal.squeeze_around-requires-clause-around
squeeze_around-requires-clause-around c =
    subst (λ (z : ZoneState). AroundAt z c.in-Some.at) (sym c.first_out_of_order.ensures.zone)
    (around_entry c.gaps.zone c.in-Some.at c.in-Some.ensures.first.entry)

pub gaps-preserved : goal.gaps-preserved
gaps-preserved c =
    let old = c.gaps.zone in
    let same = c.first_out_of_order.ensures.zone in
    let around = around_entry old c.in-Some.at c.in-Some.ensures.first.entry in
    let after = c.squeeze_around.new.zone in
    partly_on c.args.zone.now old c.gaps.invariant c.in-Some.at around after
    (subst (λ (z : ZoneState). (a : AroundAt z c.in-Some.at) → after ≡ with_map (a.before ++ (down (a.lower ++ a.upper) ++ a.after)) z) same c.squeeze_around.ensures.zone around)
    (subst (λ (z : ZoneState). KeepsLoans z after) same c.squeeze_around.ensures.loans)
    c.squeeze_around.ensures.settled
