use Rattle.std.proofs.Common.{◌≡◌, ◌∙◌, sym, ap, append_assoc, subst}
use Rattle.mac_base.specs.Arrangement.{up}
use Rattle.mac_base.specs.Gap.{Gap}
use Rattle.linked_zone.specs.Changes.{with_map}
use Rattle.linked_zone.specs.Loans.{KeepsLoans}
use Rattle.zone_laws.proofs.Arranging.{up-IsArrangement}
use Rattle.zone_laws.proofs.GapParts.{gap-IsGap}
use Rattle.zone_heap.specs.Gaps.{Settled, GapBetween, with_gap}
use Rattle.zone_heap.proofs.Laws.{settled-gap}
use Rattle.zone_heap.proofs.LoansKept.{keeps_loans-gap}
use Rattle.zone_heap.proofs.Settling.{rest_of_gap, run_of_rest}
use Rattle.zone_heap.proofs.arrange.squeeze_up.Goals as goal
use Rattle.zone_heap.proofs.arrange.squeeze_up.Goals.{After-press_up}

pub press_up-requires : goal.press_up-requires
press_up-requires c =
    let z = c.args.zone.now in
    let gap = c.requires.gap in
    record { run = run_of_rest z c.args.start c.args.end c.requires.settled (rest_of_gap z c.args.start gap.at) gap.long; sizes = (c.requires.settled).sizes }

-- the gap is arranged
arranged : (c : After-press_up) (gap : GapBetween c.args.zone.now c.args.start c.args.end) → c.press_up.new.zone ≡ with_gap c.args.zone.now gap.at.gap (up gap.at.gap.blocks)
arranged c gap =
    let z = c.args.zone.now in
    let g : Gap = gap.at.gap in
    c.press_up.ensures (run_of_rest z c.args.start c.args.end c.requires.settled (rest_of_gap z c.args.start gap.at) gap.long) ∙ ap (λ m. with_map m z) (sym (append_assoc g.before (up g.blocks) g.after))

pub returns-clause-zone : goal.returns-clause-zone
returns-clause-zone c gap = arranged c gap

pub returns-clause-loans : goal.returns-clause-loans
returns-clause-loans c =
    let z = c.args.zone.now in
    let at = c.requires.gap.at in
    let g : Gap = at.gap in
    subst (KeepsLoans z) (sym (arranged c c.requires.gap)) (keeps_loans-gap z g (up g.blocks) (gap-IsGap z.heap.table z.heap.map g at.among) (up-IsArrangement g.blocks) c.requires.settled)

pub returns-clause-settled : goal.returns-clause-settled
returns-clause-settled c =
    let z = c.args.zone.now in
    let at = c.requires.gap.at in
    let g : Gap = at.gap in
    subst Settled (sym (arranged c c.requires.gap)) (settled-gap z g (up g.blocks) (gap-IsGap z.heap.table z.heap.map g at.among) (up-IsArrangement g.blocks) c.requires.settled)
