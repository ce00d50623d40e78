use Rattle.std.proofs.Common.{◌≡◌, ℕ, ◌∷◌, drop, refl, ap, sym, ◌∙◌, subst}
use Rattle.linked_zone.specs.Changes.{taken}
use Rattle.linked_zone.proofs.Standing.{Kept, stands-now}
use Rattle.linked_zone.proofs.EndsSlots.{take-none, take-first, take-slot, take-says, take-ends}
use Rattle.linked_zone.proofs.zone.LinkedZone.take.Goals as goal

pub slot-requires : goal.slot-requires
slot-requires c = take-slot _ _ (stands-now c.self.invariant c.self.view_is) c.front-front.result c.front-front.ensures c.if-front-eq0.false

pub set_slot-requires-clause-there : goal.set_slot-requires-clause-there
set_slot-requires-clause-there c = take-slot _ _ (stands-now c.self.invariant c.self.view_is) c.front-front.result c.front-front.ensures c.if-front-eq0.false

pub returns-then-front-eq0 : goal.returns-then-front-eq0
returns-then-front-eq0 c = (take-none _ _ (stands-now c.self.invariant c.self.view_is) c.front-front.result c.front-front.ensures c.if-front-eq0.true, refl)

pub unreachable-requires : goal.unreachable-requires
unreachable-requires c = c.in_default.not-Free _ (take-says _ _ (stands-now c.self.invariant c.self.view_is) c.front-front.result c.front-front.ensures c.if-front-eq0.false c.slot.result c.slot.ensures)

-- how it ends
ends : (c : goal.After-new) → Kept c.set_front.new.self (taken c.front-front.result c.args.self.now)
ends c = take-ends _ _ (stands-now c.self.invariant c.self.view_is) c.front-front.result c.front-front.ensures c.if-front-eq0.false
    c.set_slot.new.self c.set_front.new.self c.in-Free.next c.in-Free.ensures c.set_slot.ensures c.set_front.ensures

pub invariant_of-self : goal.invariant_of-self
invariant_of-self c = (ends c).inside

pub returns : goal.returns
returns c = (
  subst (λ (h : ℕ). c.args.self.now.heap.free_slots ≡ h ∷ drop 1 c.args.self.now.heap.free_slots) (sym c.new.ensures)
      (take-first _ _ (stands-now c.self.invariant c.self.view_is) c.front-front.result c.front-front.ensures c.if-front-eq0.false),
  (ends c).same ∙ ap (λ h. taken h c.args.self.now) (sym c.new.ensures),
)
