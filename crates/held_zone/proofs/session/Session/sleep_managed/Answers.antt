use Rattle.std.proofs.Common.{◌≡◌, ◌∙◌, [], refl, sym, ap, subst}
use Rattle.mac_base.specs.Heap.{Heap}
use Rattle.mac_base.specs.ZoneState.{ZoneState}
use Rattle.linked_zone.specs.Structure.{DifferInContents}
use Rattle.held_calls.specs.Holding.{loans_of}
use Rattle.held_zone.specs.Asleep.{FallsAsleep, WakesAsBefore, each_once}
use Rattle.held_zone.specs.State.{State}
use Rattle.held_zone.proofs.AsBefore.{wakes-as_before}
use Rattle.held_zone.proofs.LentAgain.{blocks-lent, blocks-once}
use Rattle.held_zone.proofs.Made.{state}
use Rattle.held_zone.proofs.session.Session.sleep_managed.Goals as goal

pub returns-clause-asleep : goal.returns-clause-asleep
returns-clause-asleep c =
    let back = c.take_all_back.ensures in let falls = c.in-Some.ensures in
    let left = c.self.inside.answers.left in let asks = c.self.inside.answers.asks in
    let new : State = state c.sleep.new.self (loans_of c.take_all_back.new.loans) left asks c.blocks-blocks.result.items c.self.inside.guest c.self.inside.purges in
    let blocks = c.blocks-blocks.ensures.blocks ∙ blocks-lent c.self.inside.loans in
    let none : c.sleep.new.self.heap.table.lent ≡ [] = sym (ap (λ (h : Heap). h.table.lent) falls.asleep.heap) ∙ back.nothing_lent in
    subst (λ (s : State). FallsAsleep s c.in-Some.region new) c.self.view_is (record {
      zone = subst (λ (z : ZoneState). DifferInContents z c.sleep.new.self) back.zone falls.asleep;
      structure = falls.wakes;
      kept = sym (ap (λ (z : ZoneState). z.memory.kept) back.zone) ∙ falls.kept;
      as_before = falls.as_before ∙ ap (λ (z : ZoneState). record z { memory = c.sleep.new.self.memory }) back.zone;
      loans = ap loans_of back.loans;
      waiting = blocks;
      left = refl;
      asks = refl;
      guest = refl;
      purges = refl;
      asleep = record { nothing_lent = none; own = falls.own; once = ap each_once blocks ∙ blocks-once c.self.inside.loans c.self.invariant.0.once };
    })

pub returns-clause-again : goal.returns-clause-again
returns-clause-again c =
    let inside = c.self.inside in let left = inside.answers.left in let asks = inside.answers.asks in
    let new : State = state c.sleep.new.self (loans_of c.take_all_back.new.loans) left asks c.blocks-blocks.result.items c.self.inside.guest c.self.inside.purges in
    let falls = subst (λ (s : State). FallsAsleep s c.in-Some.region new) (sym c.self.view_is) (returns-clause-asleep c) in
    let place = c.in-Some.ensures.name ∙ ap (λ (z : ZoneState). z.memory.region) c.take_all_back.ensures.zone in
    subst (λ (s : State). WakesAsBefore s c.in-Some.region new) c.self.view_is
    (wakes-as_before inside.memory inside.loans left asks inside.waiting.items inside.guest inside.purges c.in-Some.region new c.linked.ensures.sound c.lent_count.ensures.loans c.lent_count.ensures.fixed c.self.invariant.0 c.self.invariant.1 place falls)
