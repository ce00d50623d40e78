use Rattle.std.proofs.Common.{◌≡◌, sym, subst}
use Rattle.mac_base.specs.Gap.{Gap}
use Rattle.mac_base.specs.Arrangement.{down}
use Rattle.linked_zone.specs.Loans.{KeepsLoans}
use Rattle.zone_laws.proofs.Arranging.{down-IsArrangement}
use Rattle.zone_heap.specs.Gaps.{Settled, GapFrom, with_gap}
use Rattle.zone_heap.specs.Runs.{RunAt}
use Rattle.zone_heap.proofs.Laws.{settled-gap}
use Rattle.zone_heap.proofs.LoansKept.{keeps_loans-gap}
use Rattle.zone_heap.proofs.Settling.{run_of_rest}
use Rattle.zone_heap.proofs.Squeezing.{gap_is, rest_from, zone_from, free_from}
use Rattle.zone_heap.proofs.arrange.squeeze_down.Goals as goal
use Rattle.zone_heap.proofs.arrange.squeeze_down.Goals.{After-press_down}

-- the run from the first free block on
abbrev run : (c : After-press_down) (from : GapFrom c.args.zone.now c.args.at) → RunAt c.args.zone.now c.args.at c.gap_end-end.result
run c from = run_of_rest c.args.zone.now c.args.at c.gap_end-end.result c.requires.settled (rest_from c.args.zone.now c.args.at from) (c.gap_end-end.ensures (rest_from c.args.zone.now c.args.at from))

zone_is : (c : After-press_down) (from : GapFrom c.args.zone.now c.args.at) → c.press_down.new.zone ≡ with_gap c.args.zone.now from.gap (down from.gap.blocks)
zone_is c from =
    let z = c.args.zone.now in
    zone_from z c.args.at from c.gap_end-end.result c.requires.settled (c.gap_end-end.ensures (rest_from z c.args.at from)) c.press_down.new.zone (c.press_down.ensures.zone (run c from))

pub gap_end-end-requires : goal.gap_end-end-requires
gap_end-end-requires c =
    let z = c.args.zone.now in
    record { rest = (rest_from z c.args.at c.requires.gap) }

pub press_down-requires : goal.press_down-requires
press_down-requires c =
    let z = c.args.zone.now in
    let rest = rest_from z c.args.at c.requires.gap in
    record { run = run_of_rest z c.args.at c.gap_end-end.result c.requires.settled rest (c.gap_end-end.ensures rest); sizes = (c.requires.settled).sizes }

pub returns-clause-zone : goal.returns-clause-zone
returns-clause-zone c from = zone_is c from

pub returns-clause-free : goal.returns-clause-free
returns-clause-free c from = free_from c.args.zone.now c.args.at from c.press_down.result (c.press_down.ensures.free (run c from))

pub returns-clause-loans : goal.returns-clause-loans
returns-clause-loans c =
    let z = c.args.zone.now in
    let from = c.requires.gap in
    let g : Gap = from.gap in
    subst (KeepsLoans z) (sym (zone_is c from)) (keeps_loans-gap z g (down g.blocks) (gap_is z c.args.at from) (down-IsArrangement g.blocks) c.requires.settled)

pub returns-clause-settled : goal.returns-clause-settled
returns-clause-settled c =
    let z = c.args.zone.now in
    let from = c.requires.gap in
    let g : Gap = from.gap in
    subst Settled (sym (zone_is c from)) (settled-gap z g (down g.blocks) (gap_is z c.args.at from) (down-IsArrangement g.blocks) c.requires.settled)
