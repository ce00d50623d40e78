use Rattle.std.proofs.Common.{[], List, refl, sym, ap, subst, ◌∙◌}
use Rattle.mac_base.specs.ZoneState.{ZoneState, with_heap}
use Rattle.mac_base.specs.LoanStep.{all_returned}
use Rattle.held_calls.specs.Holding.{Holds, loans_of}
use Rattle.held_calls.specs.declared.loans.Held.{Held}
use Rattle.held_calls.proofs.Holding.{Holds-returned, nothing_lent}
use Rattle.held_calls.proofs.lending.take_all_back.Goals as goal

pub loop-block-preserved : goal.loop-block-preserved
loop-block-preserved c =
    let held = c.in-Some.field-0 in
    let rest = c.take_first.new.self in
    let old = c.loop-block.memory in
    let new = c.give_back.new.self in record {
      holds = Holds-returned old new held.block c.loop-block.loans held.loan rest (record { before = []; after = rest; was = c.in-Some.ensures.first; is = refl; first = refl }) c.give_back.ensures.zone c.give_back.ensures.loans c.loop-block.invariant.holds;
      zone = ap (λ (z : ZoneState). with_heap (all_returned (loans_of rest) z.heap) z) c.give_back.ensures.zone
          ∙ sym (ap (λ (hs : List Held). with_heap (all_returned (loans_of hs) old.heap) old) c.in-Some.ensures.first) ∙ c.loop-block.invariant.zone;
    }

pub returns-clause-nothing_lent : goal.returns-clause-nothing_lent
returns-clause-nothing_lent c = nothing_lent c.loop-block.memory (subst (λ (hs : List Held). Holds c.loop-block.memory hs) c.in_default.ensures.none c.loop-block.invariant.holds)
