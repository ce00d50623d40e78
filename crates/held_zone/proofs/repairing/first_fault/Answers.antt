use Rattle.std.proofs.Common.{◌≡◌, ◌∙◌, ℕ, List, subst, sym, take_at}
use Rattle.held_zone.specs.NilFlags.{IsCleared}
use Rattle.held_zone.proofs.NilFlags.{finds-cleared, finds-plain}
use Rattle.held_zone.proofs.repairing.first_fault.Goals as goal

pub returns-then-not-has_any : goal.returns-then-not-has_any
returns-then-not-has_any c = finds-plain c.args.zone.now c.args.bytes.now c.in-Some.found.0 c.in-Some.found.1 c.if-not-has_any.ensures c.in-Some.ensures.fault

pub returns : goal.returns
returns c =
    let z = c.args.zone.now in let bytes = c.args.bytes.now in
    let own : c.deref_mut.result.now ≡ bytes = c.deref_mut.ensures.value ∙ c.in_ok-taken.ensures.items in
    let clear : IsCleared z bytes c.clear.new.bytes = subst (λ (bs : List ℕ). IsCleared z bs c.clear.new.bytes) own c.clear.ensures in
    finds-cleared z bytes c.clear.new.bytes c.deref.result.now c.in-Some.found.0 c.in-Some.found.1 c.first_fault-2.result c.in-Some.ensures.fault clear
    (c.deref.ensures.value ∙ take_at c.clear.new.bytes _ c.in_ok-taken.taken.len (clear.long ∙ sym c.in_ok-taken.ensures.len)) c.first_fault-2.ensures.fault c.first_fault-2.ensures.none
