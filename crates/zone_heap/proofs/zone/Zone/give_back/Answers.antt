use Rattle.std.proofs.Common.{sym, subst}
use Rattle.mac_base.specs.Loans.{LoansAreFixed}
use Rattle.mac_base.specs.Sound.{Sound}
use Rattle.mac_base.specs.ZoneState.{ZoneState}
use Rattle.zone_laws.proofs.LentChanges.{returned-fixed, sound-returned}
use Rattle.linked_zone.specs.Loans.{IsLoanOf, KeepsOtherLoans}
use Rattle.zone_heap.proofs.Loans.{return-keeps}
use Rattle.zone_heap.proofs.zone.Zone.give_back.Goals as goal

pub invariant_of-self : goal.invariant_of-self
invariant_of-self c =
    let z = c.self.inside.pointers in
    let x = c.args.block in
    let is = subst (λ z. IsLoanOf z x c.args.loan) (sym c.self.view_is) c.requires in
    record {
      sound = subst (λ (w : ZoneState). Sound w.shape w.heap) (sym c.give_back.ensures) (sound-returned z.shape z.heap x c.args.loan.bytes c.self.invariant.sound c.self.invariant.fixed is.lent is.long);
      fixed = subst (λ (w : ZoneState). LoansAreFixed w.heap) (sym c.give_back.ensures) (returned-fixed x c.args.loan.bytes z.heap c.self.invariant.fixed);
    }

pub returns-clause-loans : goal.returns-clause-loans
returns-clause-loans c =
    let z = c.self.inside.pointers in
    let x = c.args.block in
    subst (λ old. KeepsOtherLoans x old c.give_back.new.self) c.self.view_is (subst (KeepsOtherLoans x z) (sym c.give_back.ensures) (return-keeps z x c.args.loan))
