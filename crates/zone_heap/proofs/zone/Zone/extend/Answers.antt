use Rattle.std.proofs.Common.{◌≡◌, ◌+◌, ◌∙◌, sym, ap, subst, refl, arith}
use Rattle.mac_base.specs.Heap.{grown}
use Rattle.mac_base.specs.Sound.{Sound}
use Rattle.mac_base.specs.ZoneSizes.{ZoneSizes}
use Rattle.mac_base.specs.ZoneState.{ZoneState, with_heap}
use Rattle.zone_laws.proofs.SoundGrown.{sound-grown}
use Rattle.zone_heap.specs.Joins.{NewlyFree, all_joined}
use Rattle.zone_heap.proofs.Loans.{changed-loans, changed-fixed}
use Rattle.zone_heap.proofs.Extending.{keeps-grown, extended-newly, grown-full}
use Rattle.zone_heap.proofs.zone.Zone.extend.Goals as goal
use Rattle.zone_heap.proofs.zone.Zone.extend.Goals.{After-join}

pub join-requires : goal.join-requires
join-requires c =
    let z = c.self.inside.pointers in
    let base = c.base.ensures.value ∙ ap (λ (s : ZoneSizes). s.base) (rw c.linked.ensures at c.spec-spec.ensures.sizes) in
    let size = c.size-then-size-limit.ensures.value ∙ ap (λ (s : ZoneSizes). s.size) (rw c.linked.ensures at c.spec-spec.ensures.sizes) in
    let below = c.size.ensures.value ∙ ap (λ (s : ZoneSizes). s.size) (rw c.linked.ensures at c.spec-spec.ensures.sizes) in
    let limit = c.limit.ensures.value ∙ ap (λ (s : ZoneSizes). s.limit) (rw c.linked.ensures at c.spec-spec.ensures.sizes) in
    subst (λ w. NewlyFree w (c.base.result + c.size-then-size-limit.result)) (sym c.extend.ensures)
    (extended-newly z c.self.invariant.sound (c.base.result + c.size-then-size-limit.result) (omega (arith, base, size)) (omega (arith, below, limit, c.if-size-limit.true)))

-- the zone then
after : (c : After-join) → c.join.new.pointers ≡ with_heap (grown c.self.inside.pointers.shape c.self.inside.pointers.heap) c.self.inside.pointers
after c = c.join.ensures ∙ ap all_joined c.extend.ensures

pub invariant_of-self : goal.invariant_of-self
invariant_of-self c =
    let z = c.self.inside.pointers in
    let is = after (goal.at.invariant_of-self c).After-join in
    record {
      sound = subst (λ (w : ZoneState). Sound w.shape w.heap) (sym is) (sound-grown z.shape z.heap c.self.invariant.sound);
      fixed = changed-fixed z (with_heap (grown z.shape z.heap) z) c.join.new.pointers is (keeps-grown z.shape z.heap) c.self.invariant.fixed;
    }

pub returns-then-size-limit-clause-loans : goal.returns-then-size-limit-clause-loans
returns-then-size-limit-clause-loans c =
    let z = c.self.inside.pointers in
    changed-loans c.args.self.now z (with_heap (grown z.shape z.heap) z) c.join.new.pointers c.self.view_is (after (goal.at.returns-then-size-limit-clause-loans c).After-join) refl refl (keeps-grown z.shape z.heap)

pub returns-else-size-limit-clause-zone : goal.returns-else-size-limit-clause-zone
returns-else-size-limit-clause-zone c =
    let z = c.self.inside.pointers in
    let size = c.size.ensures.value ∙ ap (λ (s : ZoneSizes). s.size) (rw c.linked.ensures at c.spec-spec.ensures.sizes) in
    let limit = c.limit.ensures.value ∙ ap (λ (s : ZoneSizes). s.limit) (rw c.linked.ensures at c.spec-spec.ensures.sizes) in
    sym c.self.view_is ∙ grown-full z c.self.invariant.sound (λ below. omega (arith, size, limit, c.if-size-limit.false, below)) ∙ ap (λ (z : ZoneState). with_heap (grown z.shape z.heap) z) c.self.view_is
