use Rattle.std.proofs.Common.{◌∙◌}
use Rattle.zone_heap.proofs.Laws.{gap_from}
use Rattle.zone_heap.proofs.Clearing.{opened_there, opened_down, sound_down}
use Rattle.zone_heap.proofs.place.open_lowest.Goals as goal

pub returns-in-Some-clause-room : goal.returns-in-Some-clause-room
returns-in-Some-clause-room c = rw c.lowest_free.ensures.zone (opened_there c.args.zone.now c.args.needed c.in-Some.at c.in-Some.ensures.lowest)

pub squeeze_down-requires-clause-gap : goal.squeeze_down-requires-clause-gap
squeeze_down-requires-clause-gap c = rw (c.in_ok-at.ensures.zone ∙ c.lowest_free.ensures.zone) (gap_from c.args.zone.now c.args.needed c.in_ok-at.at (rw c.lowest_free.ensures.zone at c.in_ok-at.ensures.found))

pub returns-clause-room : goal.returns-clause-room
returns-clause-room c =
    let same = c.in_ok-at.ensures.zone ∙ c.lowest_free.ensures.zone in
    let found = rw c.lowest_free.ensures.zone at c.in_ok-at.ensures.found in
    let from = gap_from c.args.zone.now c.args.needed c.in_ok-at.at found in
    opened_down c.args.zone.now c.args.needed c.in_ok-at.at c.requires.some found c.squeeze_down.new.zone c.squeeze_down.result c.in_default.ensures.none ((rw same at c.squeeze_down.ensures.zone) from) ((rw same at c.squeeze_down.ensures.free) from)

pub returns-clause-sound : goal.returns-clause-sound
returns-clause-sound c =
    let same = c.in_ok-at.ensures.zone ∙ c.lowest_free.ensures.zone in
    let found = rw c.lowest_free.ensures.zone at c.in_ok-at.ensures.found in
    sound_down c.args.zone.now c.args.needed c.in_ok-at.at c.requires.some found c.squeeze_down.new.zone c.requires.sound ((rw same at c.squeeze_down.ensures.zone) (gap_from c.args.zone.now c.args.needed c.in_ok-at.at found))

pub returns-clause-loans : goal.returns-clause-loans
returns-clause-loans c = rw (c.in_ok-at.ensures.zone ∙ c.lowest_free.ensures.zone) at c.squeeze_down.ensures.loans
