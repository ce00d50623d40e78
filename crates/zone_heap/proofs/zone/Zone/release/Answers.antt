use Rattle.std.proofs.Common.{◌≡◌, Some, ◌∙◌, sym, ap, subst, refl}
use Rattle.mac_base.specs.Heap.{Heap}
use Rattle.mac_base.specs.HandleTable.{EmptyHandle, is_lent, live_at}
use Rattle.mac_base.specs.Sound.{Sound}
use Rattle.mac_base.specs.ZoneState.{ZoneState}
use Rattle.zone_laws.proofs.Lent.{KeepsLent}
use Rattle.zone_laws.proofs.Tables.{live_at-with_live_same}
use Rattle.linked_zone.specs.Changes.{given_back}
use Rattle.zone_heap.proofs.Emptying.{disposed, given_back-sound, given_back-keeps}
use Rattle.zone_heap.proofs.Loans.{changed-loans, changed-fixed, keeps-both}
use Rattle.zone_heap.proofs.zone.Zone.release.Goals as goal
use Rattle.zone_heap.proofs.zone.Zone.release.Goals.{After-self}

-- the handle is empty
empty : (c : After-self) → live_at c.self.inside.pointers.heap.table c.args.handle ≡ Some EmptyHandle
empty c =
    let h = c.args.handle in
    ap (λ (z : ZoneState). live_at z.heap.table h) c.self.view_is ∙ ap (λ (heap : Heap). live_at heap.table h) c.empty.ensures.heap ∙ live_at-with_live_same h EmptyHandle c.args.self.now.heap.table

-- it isn't lent, and what is lent stays so when it is disposed of
kept : (c : After-self) → KeepsLent c.self.inside.pointers.shape c.self.inside.pointers.heap (given_back c.args.handle c.self.inside.pointers).heap
kept c =
    let h = c.args.handle in
    given_back-keeps c.self.inside.pointers h
    (ap (λ (z : ZoneState). is_lent z.heap.table h) c.self.view_is ∙ ap (λ (heap : Heap). is_lent heap.table h) c.empty.ensures.heap ∙ c.requires.here)

pub release-requires : goal.release-requires
release-requires c = empty (goal.at.release-requires c).After-self

pub invariant_of-self : goal.invariant_of-self
invariant_of-self c =
    let z = c.self.inside.pointers in
    let is = empty (goal.at.invariant_of-self c).After-self in
    record {
      sound = subst (λ (w : ZoneState). Sound w.shape w.heap) (sym c.release.ensures) (given_back-sound z c.args.handle c.self.invariant.sound is);
      fixed = changed-fixed z (given_back c.args.handle z) c.release.new.self c.release.ensures (kept (goal.at.invariant_of-self c).After-self) c.self.invariant.fixed;
    }

pub returns-clause-heap : goal.returns-clause-heap
returns-clause-heap c =
    ap (λ (z : ZoneState). z.heap) c.release.ensures
    ∙ disposed c.args.self.now.heap c.self.inside.pointers c.args.handle (ap (λ (z : ZoneState). z.heap) c.self.view_is ∙ c.empty.ensures.heap)

pub returns-clause-loans : goal.returns-clause-loans
returns-clause-loans c =
    let z = c.self.inside.pointers in
    keeps-both c.args.self.now c.empty.new.self c.release.new.self c.empty.ensures.loans
    (changed-loans c.empty.new.self z (given_back c.args.handle z) c.release.new.self c.self.view_is c.release.ensures refl refl (kept (goal.at.returns-clause-loans c).After-self))
