use Rattle.std.proofs.Common.{◌≡◌, [], sym, subst}
use Rattle.mac_base.specs.ZoneState.{ZoneState, woken_in}
use Rattle.linked_zone.specs.Structure.{DifferInContents, HasStructure, SameFlags}
use Rattle.linked_zone.proofs.Structured.{differ}
use Rattle.zone_heap.proofs.Refilled.{sound-refilled}
use Rattle.zone_heap.proofs.zone.Zone.wake.Goals as goal

pub wake-requires-clause-same : goal.wake-requires-clause-same
wake-requires-clause-same c = subst (λ (z : ZoneState). HasStructure z c.args.region.bytes) (sym c.self.view_is) c.requires.same

pub wake-requires-clause-flags : goal.wake-requires-clause-flags
wake-requires-clause-flags c = subst (λ (z : ZoneState). SameFlags z c.args.region.bytes) (sym c.self.view_is) c.requires.flags

pub invariant_of-self : goal.invariant_of-self
invariant_of-self c =
    let z = c.self.inside.pointers in
    let was = sym c.self.view_is in
    let others = differ z c.self.invariant.sound (subst (λ (z : ZoneState). z.heap.table.lent ≡ []) was c.requires.nothing_lent) c.args.region.bytes (woken_in z.memory c.args.region.name)
    (subst (λ (z : ZoneState). HasStructure z c.args.region.bytes) was c.requires.same) (subst (λ (z : ZoneState). SameFlags z c.args.region.bytes) was c.requires.flags) in
    sound-refilled z c.wake.new.self (subst (λ (w : ZoneState). DifferInContents z w) (sym c.wake.ensures) others) c.self.invariant
