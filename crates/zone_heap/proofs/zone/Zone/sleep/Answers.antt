use Rattle.std.proofs.Common.{◌≡◌, [], false, sym, subst}
use Rattle.std.specs.Prelude.{IfNone, IfSome, None}
use Rattle.mac_base.specs.Sound.{Sound}
use Rattle.mac_base.specs.ZoneState.{ZoneState}
use Rattle.linked_zone.specs.Sleeping.{FallsAsleep}
use Rattle.linked_zone.proofs.Structured.{differ-slept}
use Rattle.zone_heap.proofs.Refilled.{sound-refilled}
use Rattle.zone_heap.proofs.zone.Zone.sleep.Goals as goal

pub invariant_of-self : goal.invariant_of-self
invariant_of-self c =
    let z = c.self.inside.pointers in
    let none = subst (λ (z : ZoneState). z.heap.table.lent ≡ []) (sym c.self.view_is) c.requires.nothing_lent in
    sound-refilled z c.sleep.new.self (differ-slept z c.self.invariant.sound none c.sleep.result c.sleep.new.self c.sleep.ensures.asleep c.sleep.ensures.none) c.self.invariant

pub returns-clause-asleep : goal.returns-clause-asleep
returns-clause-asleep c = subst (λ (z : ZoneState). IfSome c.sleep.result (λ region. FallsAsleep z c.sleep.new.self)) c.self.view_is c.sleep.ensures.asleep

pub returns-clause-none : goal.returns-clause-none
returns-clause-none c = subst (λ (z : ZoneState). IfNone c.sleep.result ((z.memory.kept ≡ None) × (c.sleep.new.self ≡ z))) c.self.view_is c.sleep.ensures.none

pub returns-clause-sound : goal.returns-clause-sound
returns-clause-sound c = subst (λ (z : ZoneState). Sound z.shape z.heap) c.self.view_is c.self.invariant.sound
