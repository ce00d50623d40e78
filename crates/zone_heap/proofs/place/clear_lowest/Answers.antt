use Rattle.std.proofs.Common.{◌≡◌, ◌∙◌, false}
use Rattle.mac_base.specs.Serve.{begins_free}
use Rattle.zone_heap.specs.Gaps.{GapBetween}
use Rattle.zone_heap.proofs.Laws.{gap_from}
use Rattle.zone_heap.proofs.Squeezing.{front_from, rest_from}
use Rattle.zone_heap.proofs.Clearing.{between, cleared_up, cleared_there, sound_up, begins_used, begins_few, begins_enough, entry_first}
use Rattle.zone_heap.proofs.place.clear_lowest.Goals as goal
use Rattle.zone_heap.proofs.place.clear_lowest.Goals.{After-gap_end-end, Then-start-at, then-start-at-via-then-start-at, then-start-at-via-else-start-at+then-entry_at-needed}

pub gap_start-start-requires : goal.gap_start-start-requires
gap_start-start-requires c = record { front = rw c.in_ok-at.ensures.zone (front_from c.args.zone.now c.in_ok-at.at (gap_from c.args.zone.now c.args.needed c.in_ok-at.at c.in_ok-at.ensures.found)) }

pub entry_at-requires : goal.entry_at-requires
entry_at-requires c = rw (c.linked.ensures ∙ c.in_ok-at.ensures.zone) (entry_first c.args.zone.now c.args.needed c.in_ok-at.at c.requires.some c.in_ok-at.ensures.found)

pub gap_end-end-requires : goal.gap_end-end-requires
gap_end-end-requires c = record { rest = rw c.in_ok-at.ensures.zone (rest_from c.args.zone.now c.in_ok-at.at (gap_from c.args.zone.now c.args.needed c.in_ok-at.at c.in_ok-at.ensures.found)) }

-- the gap ends there
abbrev gap_between : (c : After-gap_end-end) → GapBetween c.args.zone.now c.gap_start-start.result c.gap_end-end.result
gap_between c =
    let z = c.args.zone.now in
    let from = gap_from z c.args.needed c.in_ok-at.at c.in_ok-at.ensures.found in
    between z c.args.needed c.in_ok-at.at c.requires.some c.in_ok-at.ensures.found c.gap_start-start.result ((rw c.in_ok-at.ensures.zone at c.gap_start-start.ensures) (front_from z c.in_ok-at.at from))
    c.gap_end-end.result ((rw c.in_ok-at.ensures.zone at c.gap_end-end.ensures) (rest_from z c.in_ok-at.at from))

pub squeeze_up-requires-clause-gap : goal.squeeze_up-requires-clause-gap
squeeze_up-requires-clause-gap c = rw c.in_ok-at.ensures.zone (gap_between (goal.at.squeeze_up-requires-clause-gap c).After-gap_end-end)

pub returns-then-start-at-clause-room : goal.returns-then-start-at-clause-room
returns-then-start-at-clause-room c =
    let z = c.args.zone.now in
    let k = c.args.needed in
    let at = c.in_ok-at.at in
    let is = c.in_ok-at.ensures.found in
    let start = c.gap_start-start.result in
    let there = (rw c.in_ok-at.ensures.zone at c.gap_start-start.ensures) (front_from z at (gap_from z k at is)) in
    let begins : begins_free k is.gap.blocks ≡ false = elim c.then-start-at.branch [
      | then-start-at-via-then-start-at w ↦ begins_used z k at c.requires.some is start there w.if-start-at.true
      | then-start-at-via-else-start-at+then-entry_at-needed w ↦ begins_few z k at c.requires.some is start there c.requires.sound.sound.suits.sizes w.if-start-at.false
          w.entry_at.result ((rw (w.linked.ensures ∙ c.in_ok-at.ensures.zone) at w.entry_at.ensures) (entry_first z k at c.requires.some is)) w.if-entry_at-needed.true
    ] in
    cleared_up z k at c.requires.some is start there c.squeeze_up.new.zone begins ((rw c.in_ok-at.ensures.zone at c.squeeze_up.ensures.zone) (gap_between (goal.at.returns-then-start-at-clause-room c).After-gap_end-end))

pub returns-then-start-at-clause-sound : goal.returns-then-start-at-clause-sound
returns-then-start-at-clause-sound c =
    let z = c.args.zone.now in
    let k = c.args.needed in
    let at = c.in_ok-at.at in
    let is = c.in_ok-at.ensures.found in
    sound_up z k at c.requires.some is c.squeeze_up.new.zone c.requires.sound ((rw c.in_ok-at.ensures.zone at c.squeeze_up.ensures.zone) (gap_between (goal.at.returns-then-start-at-clause-sound c).After-gap_end-end))

pub returns-else-entry_at-needed-clause-room : goal.returns-else-entry_at-needed-clause-room
returns-else-entry_at-needed-clause-room c =
    let z = c.args.zone.now in
    let k = c.args.needed in
    let at = c.in_ok-at.at in
    let is = c.in_ok-at.ensures.found in
    let there = (rw c.in_ok-at.ensures.zone at c.gap_start-start.ensures) (front_from z at (gap_from z k at is)) in
    rw c.in_ok-at.ensures.zone
    (cleared_there z k at c.requires.some is c.gap_start-start.result there
    (begins_enough z k at c.requires.some is c.gap_start-start.result there c.requires.sound.sound.suits.sizes c.if-start-at.false c.entry_at.result ((rw (c.linked.ensures ∙ c.in_ok-at.ensures.zone) at c.entry_at.ensures) (entry_first z k at c.requires.some is)) c.if-entry_at-needed.false))

pub returns-then-start-at-clause-loans : goal.returns-then-start-at-clause-loans
returns-then-start-at-clause-loans c = rw c.in_ok-at.ensures.zone at c.squeeze_up.ensures.loans
