use Rattle.std.proofs.Common.{◌∙◌, sym, ap, subst, nat_lt, length}
use Rattle.std.specs.Prelude.{◌||◌}
use Rattle.std.proofs.lemmas.Bool.{and_parts}
use Rattle.mac_base.specs.HandleTable.{is_locked, is_pointer}
use Rattle.mac_base.specs.Loans.{LoansAreFixed, lent_out, may_be_lent, most_loans}
use Rattle.mac_base.specs.Sound.{Sound}
use Rattle.mac_base.specs.ZoneState.{ZoneState}
use Rattle.zone_laws.proofs.LentChanges.{lent_out-fixed, sound-lent}
use Rattle.linked_zone.specs.Loans.{KeepsLoans}
use Rattle.zone_heap.proofs.Loans.{lend-keeps}
use Rattle.zone_heap.proofs.zone.Zone.lend.Goals as goal

pub invariant_of-self : goal.invariant_of-self
invariant_of-self c =
    let z = c.self.inside.pointers in
    let x = c.args.block in
    let t = z.heap.table in
    let may = ap (λ (z : ZoneState). may_be_lent z.heap.table x) c.self.view_is ∙ c.requires.fixed in
    record {
      sound = subst (λ (w : ZoneState). Sound w.shape w.heap) (sym c.lend.ensures.zone) (sound-lent z.shape z.heap (lent_out x z.heap).table.lent c.self.invariant.sound);
      fixed = subst (λ (w : ZoneState). LoansAreFixed w.heap) (sym c.lend.ensures.zone)
          (lent_out-fixed z.heap x c.self.invariant.fixed (and_parts (is_pointer t x || is_locked t x) (nat_lt (length t.lent) most_loans) may).0);
    }

pub returns-clause-loans : goal.returns-clause-loans
returns-clause-loans c =
    let z = c.self.inside.pointers in
    subst (λ old. KeepsLoans old c.lend.new.self) c.self.view_is (subst (KeepsLoans z) (sym c.lend.ensures.zone) (lend-keeps z c.args.block c.self.invariant.sound c.self.invariant.fixed))
