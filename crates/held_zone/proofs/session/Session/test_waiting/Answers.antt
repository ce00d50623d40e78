use Rattle.std.proofs.Common.{◌∙◌, sym, ap, subst, IsFalse}
use Rattle.std.specs.List.{list_all}
use Rattle.mac_base.specs.ZoneState.{ZoneState}
use Rattle.linked_zone.specs.Structure.{Agrees, HasStructure, SameFlags, shown}
use Rattle.held_zone.specs.Asleep.{CanBeLent, all_lendable, each_once, is_lendable}
use Rattle.held_zone.specs.State.{State}
use Rattle.held_zone.proofs.Lendable.{can-all, has-structure, same-flags}
use Rattle.held_zone.proofs.session.Session.test_waiting.Goals as goal

pub returns-then-not-all_lendable-clause-asleep : goal.returns-then-not-all_lendable-clause-asleep
returns-then-not-all_lendable-clause-asleep c =
    let bytes = c.args.bytes.now in let memory = c.self.inside.memory in let agreement = c.agreement-agreement.result in
    let agrees = subst (λ (z : ZoneState). Agrees z bytes agreement) c.linked.ensures.zone c.agreement-agreement.ensures in
    let has = has-structure memory bytes agreement agrees (sym c.if-eq.false ∙ c.eq.ensures) in
    let all = c.all_lendable.ensures ∙ ap (list_all (is_lendable (shown memory bytes))) c.as_slice-waiting.ensures.value in
    subst (λ (s : State). HasStructure s.zone bytes × IsFalse (all_lendable s bytes)) c.self.view_is (has, sym all ∙ c.if-not-all_lendable.true)

pub returns-clause-same : goal.returns-clause-same
returns-clause-same c = λ yes.
    let bytes = c.args.bytes.now in let agreement = c.agreement-agreement.result in
    let agrees = subst (λ (z : ZoneState). Agrees z bytes agreement) c.linked.ensures.zone c.agreement-agreement.ensures in
    subst (λ (s : State). HasStructure s.zone bytes × SameFlags s.zone bytes) c.self.view_is (same-flags c.self.inside.memory bytes agreement agrees (sym c.eq-2.ensures ∙ yes))

pub returns-clause-lendable : goal.returns-clause-lendable
returns-clause-lendable c = λ has.
    let bytes = c.args.bytes.now in let memory = c.self.inside.memory in let waiting = c.as_slice-waiting.ensures.value in
    let each = sym (c.all_lendable.ensures) ∙ c.if-not-all_lendable.false in
    let once = ap each_once (waiting ∙ ap (λ (s : State). s.waiting) c.self.view_is) ∙ c.requires.asleep.once in
    let can = can-all memory bytes c.as_slice-waiting.result.now c.linked.ensures.sound each once c.as_slice-waiting.ensures.fits in
    subst (λ (s : State). CanBeLent (shown s.zone bytes) s.waiting) c.self.view_is (subst (CanBeLent (shown memory bytes)) waiting can)
