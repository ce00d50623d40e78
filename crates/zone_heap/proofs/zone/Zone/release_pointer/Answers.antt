use Rattle.std.proofs.Common.{◌≡◌, ◌∙◌, sym, ap, subst, refl}
use Rattle.std.proofs.lemmas.Bool.{or_right}
use Rattle.mac_base.specs.HandleTable.{is_full, is_lent, is_pointer, without}
use Rattle.mac_base.specs.declared.releasing.ReleasingCall.TheVariants.{DisposesPtr}
use Rattle.mac_base.specs.Releasing.{heap_released}
use Rattle.mac_base.specs.Sound.{Sound}
use Rattle.mac_base.specs.ZoneState.{ZoneState, with_heap}
use Rattle.zone_laws.proofs.Lent.{KeepsLent}
use Rattle.zone_laws.proofs.LentChanges.{keeps-released}
use Rattle.zone_laws.proofs.SoundReleased.{sound-disposed_pointer}
use Rattle.linked_zone.specs.Places.{NamedAt}
use Rattle.zone_heap.specs.Joins.{NewlyFree, all_joined}
use Rattle.zone_heap.proofs.Loans.{changed-loans, changed-fixed}
use Rattle.zone_heap.proofs.Releasing.{newly-free}
use Rattle.zone_heap.proofs.zone.Zone.release_pointer.Goals as goal
use Rattle.zone_heap.proofs.zone.Zone.release_pointer.Goals.{After-join}

pub join-requires : goal.join-requires
join-requires c =
    let z = c.self.inside.pointers in
    let p = c.args.pointer in
    let live = ap (λ (z : ZoneState). is_pointer z.heap.table p) c.self.view_is ∙ c.requires.live in
    let named = subst (λ x. NamedAt z x c.address_of-at.result) c.number.ensures (rw c.linked.ensures at c.address_of-at.ensures) in
    subst (λ w. NewlyFree w c.address_of-at.result) (sym c.unfix.ensures)
    (newly-free z p c.address_of-at.result (without p z.heap.table) c.self.invariant.sound (or_right (is_full z.heap.table p) (is_pointer z.heap.table p) live) named)

-- the zone then
abbrev after_zone : After-join → ZoneState
after_zone c = with_heap (heap_released (DisposesPtr c.args.pointer) c.self.inside.pointers.heap) c.self.inside.pointers

-- it is that one
after : (c : After-join) → c.join.new.pointers ≡ after_zone c
after c = c.join.ensures ∙ ap all_joined c.unfix.ensures

-- which keeps what is lent
kept : (c : After-join) → KeepsLent c.self.inside.pointers.shape c.self.inside.pointers.heap (after_zone c).heap
kept c =
    let here = ap (λ (z : ZoneState). is_lent z.heap.table c.args.pointer) c.self.view_is ∙ c.requires.here in
    keeps-released c.self.inside.pointers.shape c.self.inside.pointers.heap (DisposesPtr c.args.pointer) here

pub invariant_of-self : goal.invariant_of-self
invariant_of-self c =
    let z = c.self.inside.pointers in
    let w = (goal.at.invariant_of-self c).After-join in
    let live = ap (λ (z : ZoneState). is_pointer z.heap.table c.args.pointer) c.self.view_is ∙ c.requires.live in
    record {
      sound = subst (λ (w : ZoneState). Sound w.shape w.heap) (sym (after w)) (sound-disposed_pointer z.shape z.heap c.args.pointer c.self.invariant.sound live);
      fixed = changed-fixed z (after_zone w) c.join.new.pointers (after w) (kept w) c.self.invariant.fixed;
    }

pub returns-clause-loans : goal.returns-clause-loans
returns-clause-loans c =
    let w = (goal.at.returns-clause-loans c).After-join in
    changed-loans c.args.self.now c.self.inside.pointers (after_zone w) c.join.new.pointers c.self.view_is (after w) refl refl (kept w)
