use Rattle.std.proofs.Common.{◌≡◌, [], sym, subst}
use Rattle.std.specs.Prelude.{IfNone, IfSome, None}
use Rattle.mac_base.specs.Sound.{Sound}
use Rattle.mac_base.specs.ZoneState.{ZoneState}
use Rattle.linked_zone.specs.Sleeping.{FallsAsleep}
use Rattle.linked_zone.proofs.Structured.{differ-slept}
use Rattle.zone_index.proofs.Refilled.{fixed-refilled, lengths-refilled, pages-refilled, purgeable-refilled, leaves-refilled}
use Rattle.zone_index.proofs.zone.IndexedZone.sleep.Goals as goal

pub invariant_of-self : goal.invariant_of-self
invariant_of-self c =
    let z = c.self.inside.zone in
    let w = c.sleep.new.self in
    let was = sym c.self.view_is in
    let d = differ-slept z (subst (λ (z : ZoneState). Sound z.shape z.heap) was c.requires.sound) (subst (λ (z : ZoneState). z.heap.table.lent ≡ []) was c.requires.nothing_lent) c.sleep.result w c.sleep.ensures.asleep c.sleep.ensures.none in record {
      fixed = fixed-refilled z w d c.self.inside.marks c.self.invariant.fixed;
      purgeable = purgeable-refilled z w d c.self.inside.purgeable c.self.invariant.purgeable;
      leaves = leaves-refilled z w d c.self.inside.leaves c.self.invariant.leaves;
      pages = pages-refilled z w d c.self.inside.pages c.self.invariant.pages;
      lengths = lengths-refilled z w d c.self.inside.lengths c.self.invariant.lengths;
    }

pub returns-clause-asleep : goal.returns-clause-asleep
returns-clause-asleep c = subst (λ (z : ZoneState). IfSome c.sleep.result (λ region. FallsAsleep z c.sleep.new.self)) c.self.view_is c.sleep.ensures.asleep

pub returns-clause-none : goal.returns-clause-none
returns-clause-none c = subst (λ (z : ZoneState). IfNone c.sleep.result ((z.memory.kept ≡ None) × (c.sleep.new.self ≡ z))) c.self.view_is c.sleep.ensures.none
