use Rattle.std.proofs.Common.{◌∙◌, ap}
use Rattle.linked_zone.specs.Changes.{with_map}
use Rattle.zone_heap.proofs.Compacting.{squeezed-found}
use Rattle.zone_heap.proofs.Laws.{gap_from}
use Rattle.zone_heap.proofs.compact.squeeze.Goals as goal

pub squeeze_down-requires-clause-gap : goal.squeeze_down-requires-clause-gap
squeeze_down-requires-clause-gap c = rw c.in-Some.ensures.zone (gap_from c.args.pointers.now c.args.needed c.in-Some.at c.in-Some.ensures.found)

pub returns-in-Some-clause-zone : goal.returns-in-Some-clause-zone
returns-in-Some-clause-zone c =
    let z = c.args.pointers.now in
    let is = c.in-Some.ensures.found in
    (rw c.in-Some.ensures.zone at c.squeeze_down.ensures.zone) (gap_from z c.args.needed c.in-Some.at is) ∙ ap (λ m. with_map m z) (squeezed-found z.heap.table z.heap.map c.args.needed is.gap is.lowest)

pub returns-in-Some-clause-loans : goal.returns-in-Some-clause-loans
returns-in-Some-clause-loans c = rw c.in-Some.ensures.zone at c.squeeze_down.ensures.loans
