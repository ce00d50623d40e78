use Rattle.std.proofs.Common.{◌≡◌, ◌∙◌, refl, sym, ap, subst}
use Rattle.mac_base.specs.HeadKind.{need}
use Rattle.mac_base.specs.ZoneSizes.{ZoneSizes}
use Rattle.mac_base.specs.declared.request.Request.TheVariants.{Replace}
use Rattle.linked_zone.specs.Loans.{KeepsLoans}
use Rattle.zone_heap.specs.Attempts.{IsRefused, SoundZone}
use Rattle.zone_heap.specs.declared.shortage.Shortage.TheVariants.{NoRoom}
use Rattle.zone_heap.specs.Room.{IsOpened}
use Rattle.zone_heap.proofs.Emptying.{emptied_zone}
use Rattle.zone_heap.proofs.Replacing.{replace-refused, replace-room, replace-cuts, replace-empty, replace-point, replace-done, replaced_zone, replace-served, replace-sound, replace-loans}
use Rattle.zone_heap.proofs.replace.replace.Goals as goal
use Rattle.zone_heap.proofs.replace.replace.Goals.{After-need_for-needed, After-has_room, In-Some, After-point}

-- how many bytes are needed
size : (c : After-need_for-needed) → c.need_for-needed.result ≡ need c.args.zone.now.shape.heads c.args.length
size c = c.need_for-needed.ensures ∙ ap (λ heads. need heads c.args.length) (c.heads.ensures ∙ ap (λ (s : ZoneSizes). s.heads) (rw c.linked.ensures at c.spec.ensures.sizes))

-- a free block is opened for them in the zone without the old block
opened : (c : In-Some) → IsOpened (emptied_zone c.args.handle c.args.zone.now) c.need_for-needed.result c.in-Some.at c.open_lowest.new.zone
opened c = subst (λ w. IsOpened w c.need_for-needed.result c.in-Some.at c.open_lowest.new.zone) (rw c.has_room.ensures.zone at c.empty.ensures.zone) c.in-Some.ensures.room

-- the handle has it then
after : (c : After-point) → c.point.new.self
    ≡ replaced_zone c.args.zone.now c.args.handle c.args.length c.requires.ready c.need_for-needed.result (size (goal.at.After-point c).After-need_for-needed) c.open_lowest.new.zone c.in-Some.at (opened (goal.at.After-point c).In-Some) c.in-Some.ensures.sound
after c =
    replace-done c.args.zone.now c.args.handle c.args.length c.requires.ready c.need_for-needed.result (size (goal.at.After-point c).After-need_for-needed) c.open_lowest.new.zone c.in-Some.at (opened (goal.at.After-point c).In-Some) c.in-Some.ensures.sound
    c.cut.new.pointers c.cut.ensures c.point.new.self c.point.ensures

pub returns-then-not-has_room-clause-attempt : goal.returns-then-not-has_room-clause-attempt
returns-then-not-has_room-clause-attempt c =
    subst (λ v. IsRefused (Replace c.args.handle c.args.length) c.args.zone.now NoRoom v) (sym c.has_room.ensures.zone)
    (replace-refused c.args.zone.now c.args.handle c.args.length c.requires.ready c.need_for-needed.result (size (goal.at.returns-then-not-has_room-clause-attempt c).After-need_for-needed) (sym c.has_room.ensures.room ∙ c.if-not-has_room.true))

pub returns-then-not-has_room-clause-loans : goal.returns-then-not-has_room-clause-loans
returns-then-not-has_room-clause-loans c = subst (KeepsLoans c.args.zone.now) (sym c.has_room.ensures.zone) (refl, λ x loan is. is)

pub returns-then-not-has_room-clause-sound : goal.returns-then-not-has_room-clause-sound
returns-then-not-has_room-clause-sound c = subst SoundZone (sym c.has_room.ensures.zone) c.requires.sound

pub unreachable-requires : goal.unreachable-requires
unreachable-requires c =
    replace-room c.args.zone.now c.args.handle c.args.length c.requires.ready c.need_for-needed.result (size (goal.at.unreachable-requires c).After-need_for-needed) (sym c.has_room.ensures.room ∙ c.if-not-has_room.false)
    c.empty.new.pointers c.open_lowest.new.zone (rw c.has_room.ensures.zone at c.empty.ensures.zone) c.in_default.ensures.room

pub cut-requires : goal.cut-requires
cut-requires c =
    replace-cuts c.args.zone.now c.args.handle c.args.length c.requires.ready c.need_for-needed.result (size (goal.at.cut-requires c).After-need_for-needed) c.open_lowest.new.zone c.in-Some.at (opened (goal.at.cut-requires c).In-Some) c.in-Some.ensures.sound

pub point-requires-clause-empty : goal.point-requires-clause-empty
point-requires-clause-empty c =
    let w = goal.at.point-requires-clause-empty c in
    replace-empty c.args.zone.now c.args.handle c.args.length c.requires.ready c.need_for-needed.result (size w.After-need_for-needed) c.open_lowest.new.zone c.in-Some.at (opened w.In-Some) c.in-Some.ensures.sound c.cut.new.pointers c.cut.ensures

pub point-requires-clause-room : goal.point-requires-clause-room
point-requires-clause-room c =
    let w = goal.at.point-requires-clause-room c in
    replace-point c.args.zone.now c.args.handle c.args.length c.requires.ready c.need_for-needed.result (size w.After-need_for-needed) c.open_lowest.new.zone c.in-Some.at (opened w.In-Some) c.in-Some.ensures.sound c.cut.new.pointers c.cut.ensures

pub returns-clause-attempt : goal.returns-clause-attempt
returns-clause-attempt c =
    let w = goal.at.returns-clause-attempt c in
    replace-served c.args.zone.now c.args.handle c.args.length c.requires.ready c.need_for-needed.result (size w.After-need_for-needed) c.open_lowest.new.zone c.in-Some.at (opened w.In-Some) c.in-Some.ensures.sound c.point.new.self (after w.After-point)

pub returns-clause-loans : goal.returns-clause-loans
returns-clause-loans c =
    let w = goal.at.returns-clause-loans c in
    replace-loans c.args.zone.now c.args.handle c.args.length c.requires.ready c.need_for-needed.result (size w.After-need_for-needed) c.open_lowest.new.zone c.in-Some.at (opened w.In-Some) c.in-Some.ensures.sound c.point.new.self (after w.After-point)
    c.empty.new.pointers (subst (λ v. KeepsLoans v c.empty.new.pointers) c.has_room.ensures.zone c.empty.ensures.loans) c.in-Some.ensures.loans

pub returns-clause-sound : goal.returns-clause-sound
returns-clause-sound c =
    let w = goal.at.returns-clause-sound c in
    replace-sound c.args.zone.now c.args.handle c.args.length c.requires.ready c.need_for-needed.result (size w.After-need_for-needed) c.open_lowest.new.zone c.in-Some.at (opened w.In-Some) c.in-Some.ensures.sound c.point.new.self (after w.After-point) c.requires.sound
