use Rattle.std.proofs.Common.{◌≡◌, ◌∙◌, true, false, refl, ap, sym, subst}
use Rattle.mac_base.specs.HandleTable.{is_full, is_lent, is_locked}
use Rattle.mac_base.specs.HeadKind.{need}
use Rattle.mac_base.specs.ZoneSizes.{ZoneSizes}
use Rattle.mac_base.specs.ZoneState.{ZoneState}
use Rattle.linked_zone.specs.Changes.{relocated}
use Rattle.linked_zone.specs.Places.{BlockOf, RoomFor}
use Rattle.zone_heap.proofs.Moving.{moved, can-take, cut_zone, cut-done, room, newly, moved-done, size-found, table-found, moved-away, not-away, moved-sound, moved-loans}
use Rattle.zone_heap.proofs.size.resize_elsewhere.Goals as goal
use Rattle.zone_heap.proofs.size.resize_elsewhere.Goals.{After-need_for-needed, In-Some, After-cut, After-relocate, After-join}

-- the size that is needed
size : (c : After-need_for-needed) → c.need_for-needed.result ≡ need c.args.zone.now.shape.heads c.args.length
size c = c.need_for-needed.ensures ∙ ap (λ heads. need heads c.args.length) (c.heads.ensures ∙ ap (λ (s : ZoneSizes). s.heads) (rw c.linked.ensures at c.spec.ensures.sizes))

-- in the zone with the place as well
size_there : (c : In-Some) → c.need_for-needed.result ≡ need c.open_lowest.new.zone.shape.heads c.args.length
size_there c = size-found c.args.zone.now c.open_lowest.new.zone c.args.handle c.args.length c.need_for-needed.result c.in-Some.at c.in-Some.ensures.room (size (goal.at.In-Some c).After-need_for-needed) c.requires.full c.requires.unlocked

-- where the handle has a block
full_there : (c : In-Some) → is_full c.open_lowest.new.zone.heap.table c.args.handle ≡ true
full_there c =
    ap (λ t. is_full t c.args.handle) (table-found c.args.zone.now c.open_lowest.new.zone c.args.handle c.args.length c.need_for-needed.result c.in-Some.at c.in-Some.ensures.room (size (goal.at.In-Some c).After-need_for-needed) c.requires.full c.requires.unlocked)
    ∙ c.requires.full

-- that is not locked
unlocked_there : (c : In-Some) → is_locked c.open_lowest.new.zone.heap.table c.args.handle ≡ false
unlocked_there c =
    ap (λ t. is_locked t c.args.handle) (table-found c.args.zone.now c.open_lowest.new.zone c.args.handle c.args.length c.need_for-needed.result c.in-Some.at c.in-Some.ensures.room (size (goal.at.In-Some c).After-need_for-needed) c.requires.full c.requires.unlocked)
    ∙ c.requires.unlocked

-- and not lent
here_there : (c : In-Some) → is_lent c.open_lowest.new.zone.heap.table c.args.handle ≡ false
here_there c =
    ap (λ t. is_lent t c.args.handle) (table-found c.args.zone.now c.open_lowest.new.zone c.args.handle c.args.length c.need_for-needed.result c.in-Some.at c.in-Some.ensures.room (size (goal.at.In-Some c).After-need_for-needed) c.requires.full c.requires.unlocked)
    ∙ c.requires.here

pub cut-requires : goal.cut-requires
cut-requires c =
    let p = c.in-Some.ensures.room in
    can-take c.open_lowest.new.zone c.args.handle c.args.length c.need_for-needed.result c.in-Some.at c.in-Some.ensures.sound.sound p.low.free p.low.large (size_there (goal.at.cut-requires c).In-Some)

-- once the bytes are cut off the zone is this
abbrev cut_there : (c : In-Some) → ZoneState
cut_there c =
    let p = c.in-Some.ensures.room in
    cut_zone c.open_lowest.new.zone c.args.handle c.args.length c.need_for-needed.result c.in-Some.at c.in-Some.ensures.sound.sound p.low.free p.low.large (size_there c)

cut_is : (c : After-cut) → c.cut.new.pointers ≡ cut_there (goal.at.After-cut c).In-Some
cut_is c =
    let p = c.in-Some.ensures.room in
    cut-done c.open_lowest.new.zone c.args.handle c.args.length c.need_for-needed.result c.in-Some.at c.in-Some.ensures.sound.sound p.low.free p.low.large (size_there (goal.at.After-cut c).In-Some) c.cut.new.pointers c.cut.ensures

pub block_of-old-requires : goal.block_of-old-requires
block_of-old-requires c = rw c.linked-2.ensures (ap (λ (z : ZoneState). is_full z.heap.table c.args.handle) (cut_is (goal.at.block_of-old-requires c).After-cut) ∙ full_there (goal.at.block_of-old-requires c).In-Some)

pub relocate-requires-clause-full : goal.relocate-requires-clause-full
relocate-requires-clause-full c = ap (λ (z : ZoneState). is_full z.heap.table c.args.handle) (cut_is (goal.at.relocate-requires-clause-full c).After-cut) ∙ full_there (goal.at.relocate-requires-clause-full c).In-Some

pub relocate-requires-clause-unlocked : goal.relocate-requires-clause-unlocked
relocate-requires-clause-unlocked c = ap (λ (z : ZoneState). is_locked z.heap.table c.args.handle) (cut_is (goal.at.relocate-requires-clause-unlocked c).After-cut) ∙ unlocked_there (goal.at.relocate-requires-clause-unlocked c).In-Some

pub relocate-requires-clause-here : goal.relocate-requires-clause-here
relocate-requires-clause-here c = ap (λ (z : ZoneState). is_lent z.heap.table c.args.handle) (cut_is (goal.at.relocate-requires-clause-here c).After-cut) ∙ here_there (goal.at.relocate-requires-clause-here c).In-Some

pub relocate-requires-clause-room : goal.relocate-requires-clause-room
relocate-requires-clause-room c =
    let p = c.in-Some.ensures.room in
    let w = (goal.at.relocate-requires-clause-room c).In-Some in
    subst (λ v. RoomFor v c.in-Some.at c.args.length) (sym (cut_is (goal.at.relocate-requires-clause-room c).After-cut))
    (room c.open_lowest.new.zone c.args.handle c.args.length c.need_for-needed.result c.in-Some.at c.in-Some.ensures.sound.sound p.low.free p.low.large (size_there w))

-- once it is relocated
relocated_is : (c : After-relocate) → (r : RoomFor (cut_there (goal.at.After-relocate c).In-Some) c.in-Some.at c.args.length) → c.relocate.new.self ≡ relocated c.args.handle c.args.length (cut_there (goal.at.After-relocate c).In-Some) r.free
relocated_is c =
    subst (λ v. (r : RoomFor v c.in-Some.at c.args.length) → c.relocate.new.self ≡ relocated c.args.handle c.args.length v r.free) (cut_is (goal.at.After-relocate c).After-cut) c.relocate.ensures

pub join-requires : goal.join-requires
join-requires c =
    let p = c.in-Some.ensures.room in
    let w = (goal.at.join-requires c).In-Some in
    let b = subst (λ v. BlockOf v c.args.handle c.block_of-old.result) (cut_is (goal.at.join-requires c).After-cut) (rw c.linked-2.ensures at c.block_of-old.ensures) in
    newly c.open_lowest.new.zone c.args.handle c.args.length c.need_for-needed.result c.in-Some.at c.in-Some.ensures.sound.sound p.low.free p.low.large (size_there w) (full_there w) c.block_of-old.result b c.relocate.new.self
    (relocated_is (goal.at.join-requires c).After-relocate)

-- and its old block is joined, it has moved
moved_is : (c : After-join) → let p = c.in-Some.ensures.room in c.join.new.pointers ≡ moved c.args.handle c.args.length c.need_for-needed.result c.open_lowest.new.zone p.low.free.before p.low.free.size p.low.free.after
moved_is c =
    let p = c.in-Some.ensures.room in
    let w = (goal.at.After-join c).In-Some in
    moved-done c.open_lowest.new.zone c.args.handle c.args.length c.need_for-needed.result c.in-Some.at c.in-Some.ensures.sound.sound p.low.free p.low.large (size_there w) (full_there w) c.relocate.new.self c.join.new.pointers
    (relocated_is (goal.at.After-join c).After-relocate) c.join.ensures

pub returns-in_default-clause-resized : goal.returns-in_default-clause-resized
returns-in_default-clause-resized c =
    let lacks = c.in_default.ensures.room in
    (refl, not-away c.args.zone.now c.args.handle c.args.length c.need_for-needed.result (size (goal.at.returns-in_default-clause-resized c).After-need_for-needed) lacks.0, lacks.1)

pub returns-clause-resized : goal.returns-clause-resized
returns-clause-resized c =
    moved-away c.args.zone.now c.open_lowest.new.zone c.args.handle c.args.length c.need_for-needed.result c.in-Some.at c.in-Some.ensures.room (size (goal.at.returns-clause-resized c).After-need_for-needed) c.requires.full c.requires.unlocked
    c.join.new.pointers (moved_is (goal.at.returns-clause-resized c).After-join)

pub returns-clause-loans : goal.returns-clause-loans
returns-clause-loans c =
    let w = (goal.at.returns-clause-loans c).In-Some in
    moved-loans c.args.zone.now c.open_lowest.new.zone c.join.new.pointers c.args.handle c.args.length c.need_for-needed.result c.in-Some.at c.in-Some.ensures.room (size_there w) (full_there w) (here_there w) c.in-Some.ensures.sound c.in-Some.ensures.loans
    (moved_is (goal.at.returns-clause-loans c).After-join)

pub returns-clause-sound : goal.returns-clause-sound
returns-clause-sound c =
    let w = (goal.at.returns-clause-sound c).In-Some in
    moved-sound c.args.zone.now c.open_lowest.new.zone c.join.new.pointers c.args.handle c.args.length c.need_for-needed.result c.in-Some.at c.in-Some.ensures.room (size_there w) (full_there w) (here_there w) c.in-Some.ensures.sound
    (moved_is (goal.at.returns-clause-sound c).After-join)
