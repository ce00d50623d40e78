use Rattle.std.proofs.Common.{◌≡◌, ◌++◌, ◌∙◌, ap, sym, subst, append_assoc}
use Rattle.mac_base.specs.Arrangement.{down}
use Rattle.mac_base.specs.Gap.{Gap}
use Rattle.zone_laws.proofs.Arranging.{down-IsArrangement}
use Rattle.linked_zone.specs.Changes.{with_map}
use Rattle.linked_zone.specs.Loans.{KeepsLoans}
use Rattle.zone_heap.specs.Gaps.{AroundAt, Settled, with_gap}
use Rattle.zone_heap.proofs.Around.{front_around, rest_around, run_around, gap_around, is_gap_around}
use Rattle.zone_heap.proofs.Laws.{settled-gap}
use Rattle.zone_heap.proofs.LoansKept.{keeps_loans-gap}
use Rattle.zone_heap.specs.Runs.{RunAt}
use Rattle.zone_heap.proofs.arrange.squeeze_around.Goals as goal
use Rattle.zone_heap.proofs.arrange.squeeze_around.Goals.{After-press_down, After-gap_end-end}

-- the gap is a run
abbrev run : (c : After-gap_end-end) → AroundAt c.args.zone.now c.args.at → RunAt c.args.zone.now c.gap_start-start.result c.gap_end-end.result
run c a =
    let z = c.args.zone.now in
    run_around z c.args.at a c.gap_start-start.result c.gap_end-end.result c.requires.settled (c.gap_start-start.ensures (front_around z c.args.at a)) (c.gap_end-end.ensures (rest_around z c.args.at a))

-- which is arranged down
gap_is : (c : After-press_down) (a : AroundAt c.args.zone.now c.args.at) → c.press_down.new.zone ≡ with_gap c.args.zone.now (gap_around c.args.zone.now c.args.at a) (down (a.lower ++ a.upper))
gap_is c a =
    let z = c.args.zone.now in
    c.press_down.ensures.zone (run (goal.at.After-press_down c).After-gap_end-end a) ∙ ap (λ m. with_map m z) (sym (append_assoc a.before (down (a.lower ++ a.upper)) a.after))

pub gap_start-start-requires : goal.gap_start-start-requires
gap_start-start-requires c = record { front = (front_around c.args.zone.now c.args.at c.requires.around) }

pub gap_end-end-requires : goal.gap_end-end-requires
gap_end-end-requires c = record { rest = (rest_around c.args.zone.now c.args.at c.requires.around) }

pub press_down-requires : goal.press_down-requires
press_down-requires c = record { run = run (goal.at.press_down-requires c).After-gap_end-end c.requires.around; sizes = (c.requires.settled).sizes }

pub returns-clause-zone : goal.returns-clause-zone
returns-clause-zone c a = gap_is c a ∙ ap (λ m. with_map m c.args.zone.now) (append_assoc a.before (down (a.lower ++ a.upper)) a.after)

pub returns-clause-loans : goal.returns-clause-loans
returns-clause-loans c =
    let z = c.args.zone.now in
    let a = c.requires.around in
    let g : Gap = gap_around z c.args.at a in
    subst (KeepsLoans z) (sym (gap_is c a)) (keeps_loans-gap z g (down g.blocks) (is_gap_around z c.args.at a) (down-IsArrangement g.blocks) c.requires.settled)

pub returns-clause-settled : goal.returns-clause-settled
returns-clause-settled c =
    let z = c.args.zone.now in
    let a = c.requires.around in
    let g : Gap = gap_around z c.args.at a in
    subst Settled (sym (gap_is c a)) (settled-gap z g (down g.blocks) (is_gap_around z c.args.at a) (down-IsArrangement g.blocks) c.requires.settled)
