use Rattle.std.proofs.Common.{◌≡◌, ◌∙◌, sym, ap, subst, refl}
use Rattle.mac_base.specs.HeadKind.{need}
use Rattle.mac_base.specs.Sound.{Sound}
use Rattle.mac_base.specs.ZoneSizes.{ZoneSizes}
use Rattle.mac_base.specs.ZoneState.{ZoneState}
use Rattle.zone_heap.proofs.Attempting.{block_refused, block_served, slot_there}
use Rattle.zone_heap.proofs.Loans.{changed-loans, changed-fixed, keeps-both}
use Rattle.zone_heap.proofs.Placing.{Chosen, placed-sound, placed-keeps, placed_zone, can-cut, can-point-empty, can-point-room, placed-done}
use Rattle.zone_heap.proofs.place.new_block.Goals as goal
use Rattle.zone_heap.proofs.place.new_block.Goals.{After-need_for-needed, In-Some-take, After-point}

-- how many bytes are needed
size : (c : After-need_for-needed) → c.need_for-needed.result ≡ need c.args.zone.now.shape.heads c.args.length
size c = c.need_for-needed.ensures ∙ ap (λ heads. need heads c.args.length) (c.heads.ensures ∙ ap (λ (s : ZoneSizes). s.heads) (rw c.linked-linked.ensures at c.spec.ensures.sizes))

-- the block and the slot
chosen : (c : In-Some-take) → Chosen c.open_lowest.new.zone c.in-Some-take.handle c.args.length c.need_for-needed.result c.in-Some.at
chosen c = record {
  sound = c.in-Some.ensures.sound.sound;
  low = c.in-Some.ensures.room.low;
  size = c.need_for-needed.ensures ∙ ap (λ heads. need heads c.args.length) (c.heads.ensures ∙ ap (λ (s : ZoneSizes). s.heads) (rw c.linked-linked.ensures at c.spec.ensures.sizes)) ∙ ap (λ (w : ZoneState). need w.shape.heads c.args.length) (sym c.in-Some.ensures.room.zone);
  front = c.in-Some-take.ensures.0;
}

-- the zone then
after : (c : After-point) (p : Chosen c.open_lowest.new.zone c.in-Some-take.handle c.args.length c.need_for-needed.result c.in-Some.at)
    → c.point.new.self ≡ placed_zone c.open_lowest.new.zone c.in-Some-take.handle c.args.length c.need_for-needed.result c.in-Some.at p
after c p = placed-done c.open_lowest.new.zone c.take.new.self c.cut.new.pointers c.point.new.self c.in-Some-take.handle c.args.length c.need_for-needed.result c.in-Some.at p c.in-Some-take.ensures.1 c.cut.ensures c.point.ensures

pub returns-in_default-clause-attempt : goal.returns-in_default-clause-attempt
returns-in_default-clause-attempt c = block_refused c.args.zone.now c.open_lowest.new.zone c.need_for-needed.result c.args.length (size (goal.at.returns-in_default-clause-attempt c).After-need_for-needed) c.in_default.ensures.room
    (slot_there _ _ (rw c.linked-linked.ensures at c.has_slot.ensures) c.if-not-has_slot.false)

pub cut-requires : goal.cut-requires
cut-requires c = can-cut c.open_lowest.new.zone c.take.new.self c.in-Some-take.handle c.args.length c.need_for-needed.result c.in-Some.at (chosen (goal.at.cut-requires c).In-Some-take) c.in-Some-take.ensures.1

pub point-requires-clause-empty : goal.point-requires-clause-empty
point-requires-clause-empty c = can-point-empty c.open_lowest.new.zone c.take.new.self c.cut.new.pointers c.in-Some-take.handle c.args.length c.need_for-needed.result c.in-Some.at
    (chosen (goal.at.point-requires-clause-empty c).In-Some-take) c.in-Some-take.ensures.1 c.cut.ensures

pub point-requires-clause-room : goal.point-requires-clause-room
point-requires-clause-room c = can-point-room c.open_lowest.new.zone c.take.new.self c.cut.new.pointers c.in-Some-take.handle c.args.length c.need_for-needed.result c.in-Some.at
    (chosen (goal.at.point-requires-clause-room c).In-Some-take) c.in-Some-take.ensures.1 c.cut.ensures

pub returns-clause-attempt : goal.returns-clause-attempt
returns-clause-attempt c =
    let p = chosen (goal.at.returns-clause-attempt c).In-Some-take in
    block_served c.args.zone.now c.open_lowest.new.zone c.point.new.self c.in-Some-take.handle c.args.length c.need_for-needed.result c.in-Some.at c.in-Some.ensures.room p
    (slot_there _ _ (rw c.linked-linked.ensures at c.has_slot.ensures) c.if-not-has_slot.false) (after (goal.at.returns-clause-attempt c).After-point p)

pub returns-clause-loans : goal.returns-clause-loans
returns-clause-loans c =
    let z = c.open_lowest.new.zone in
    let h = c.in-Some-take.handle in let n = c.args.length in let k = c.need_for-needed.result in let at = c.in-Some.at in
    let p = chosen (goal.at.returns-clause-loans c).In-Some-take in
    keeps-both c.args.zone.now z c.point.new.self c.in-Some.ensures.loans
    (changed-loans z z (placed_zone z h n k at p) c.point.new.self refl (after (goal.at.returns-clause-loans c).After-point p) refl refl (placed-keeps z h n k at p c.in-Some.ensures.sound.fixed))

pub returns-clause-sound : goal.returns-clause-sound
returns-clause-sound c =
    let z = c.open_lowest.new.zone in
    let h = c.in-Some-take.handle in let n = c.args.length in let k = c.need_for-needed.result in let at = c.in-Some.at in
    let p = chosen (goal.at.returns-clause-sound c).In-Some-take in
    let is = after (goal.at.returns-clause-sound c).After-point p in
    let fixed = c.in-Some.ensures.sound.fixed in
    record {
      sound = subst (λ (w : ZoneState). Sound w.shape w.heap) (sym is) (placed-sound z h n k at p);
      fixed = changed-fixed z (placed_zone z h n k at p) c.point.new.self is (placed-keeps z h n k at p fixed) fixed;
    }
