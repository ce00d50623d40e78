-- Loans of blocks stay loans while others change.
use Rattle.std.proofs.Common.{◌≡◌, ℕ, ◌+◌, Bool, true, false, eqb, length, refl, ap, sym, ◌∙◌, subst}
use Rattle.std.specs.List.{list_any}
use Rattle.std.specs.Prelude.{◌==◌}
use Rattle.std.proofs.lemmas.Bool.{eqb-true}
use Rattle.mac_base.specs.HeadKind.{Shape}
use Rattle.mac_base.specs.HandleTable.{bytes_of, is_lent}
use Rattle.mac_base.specs.Loans.{LoansAreFixed, lent_out, returned}
use Rattle.mac_base.specs.Sound.{Sound}
use Rattle.mac_base.specs.ZoneMap.{contents_of}
use Rattle.mac_base.specs.ZoneState.{Memory, ZoneState, with_heap}
use Rattle.raw_region.specs.State.{Loan}
use Rattle.zone_laws.proofs.Lent.{KeepsLent, fixed-kept}
use Rattle.zone_laws.proofs.LentChanges.{lent_out-lent, returned-lent, returned-bytes}
use Rattle.linked_zone.specs.Loans.{IsLoanOf, KeepsLoans, KeepsOtherLoans}

-- a loan of x stays one where x is still lent, in the same memory, its block where it was and as long as it was
pub same-loan : (old new : ZoneState) (x : ℕ) (loan : Loan) → IsLoanOf old x loan → is_lent new.heap.table x ≡ true → new.memory ≡ old.memory → new.shape ≡ old.shape
    → contents_of old.shape x new.heap.map ≡ contents_of old.shape x old.heap.map → length (bytes_of new.heap.table x) ≡ length (bytes_of old.heap.table x) → IsLoanOf new x loan
same-loan old new x loan is lent memory shape contents long = record {
  lent = lent;
  memory = is.memory ∙ ap (λ (m : Memory). m.region) (sym memory);
  contents = ap (λ (s : Shape). s.base + loan.at) shape ∙ is.contents ∙ sym contents ∙ ap (λ s. contents_of s x new.heap.map) (sym shape);
  long = is.long ∙ sym long;
}

-- a change that keeps what is lent keeps all loans
pub keeps-loans : (old new : ZoneState) → new.memory ≡ old.memory → new.shape ≡ old.shape → KeepsLent old.shape old.heap new.heap → KeepsLoans old new
keeps-loans old new memory shape keeps = (memory, λ x loan is. same-loan old new x loan is (ap (list_any (λ y. y == x)) keeps.lent ∙ is.lent) memory shape (keeps.contents x is.lent) (keeps.long x is.lent))

-- also where the zone before and the zone after it are in other words
pub changed-loans : (now z w new : ZoneState) → z ≡ now → new ≡ w → w.memory ≡ z.memory → w.shape ≡ z.shape → KeepsLent z.shape z.heap w.heap → KeepsLoans now new
changed-loans now z w new was is memory shape keeps = subst (λ old. KeepsLoans old new) was (subst (KeepsLoans z) (sym is) (keeps-loans z w memory shape keeps))

-- and what is lent stays fixed
pub changed-fixed : (z w new : ZoneState) → new ≡ w → KeepsLent z.shape z.heap w.heap → LoansAreFixed z.heap → LoansAreFixed new.heap
changed-fixed z w new is keeps fixed = subst (λ (w : ZoneState). LoansAreFixed w.heap) (sym is) (fixed-kept z.shape z.heap w.heap keeps fixed)

-- so does one change after another
pub keeps-both : (old between new : ZoneState) → KeepsLoans old between → KeepsLoans between new → KeepsLoans old new
keeps-both old between new first second = (second.0 ∙ first.0, λ x loan is. second.1 x loan (first.1 x loan is))

-- a loan of x keeps the others
pub lend-keeps : (z : ZoneState) (x : ℕ) → Sound z.shape z.heap → LoansAreFixed z.heap → KeepsLoans z (with_heap (lent_out x z.heap) z)
lend-keeps z x sound fixed = (refl, λ y loan is. same-loan z (with_heap (lent_out x z.heap) z) y loan is (lent_out-lent z.shape z.heap x y sound fixed is.lent) refl refl refl refl)

-- and so does its end
pub return-keeps : (z : ZoneState) (x : ℕ) (loan : Loan) → KeepsOtherLoans x z (with_heap (returned x loan.bytes z.heap) z)
return-keeps z x loan y other differ is =
    let apart = differs (eqb y x) refl in
    same-loan z (with_heap (returned x loan.bytes z.heap) z) y other is (returned-lent x loan.bytes z.heap y apart is.lent) refl refl refl (ap length (returned-bytes x loan.bytes z.heap y apart))
  where
    differs : (b : Bool) → eqb y x ≡ b → b ≡ false
    differs true same = absurd (differ (eqb-true y x same))
    differs false _ = refl
