-- What is read of a list, and what is remembered of pages once one more is known.
use Rattle.std.proofs.Common.{◌≡◌, ℕ, zero, suc, List, [], ◌∷◌, Option, Some, refl, ap, sym, ◌∙◌, subst, inl, inr, slice_set}
use Rattle.std.specs.Prelude.{◌⊎◌}
use Rattle.std.specs.List.{slice_get}
use Rattle.std.proofs.lemmas.List.{length-set}
use Rattle.std.proofs.lemmas.Option.{same_Some}
use Rattle.mac_base.specs.ZoneState.{ZoneState}
use Rattle.zone_index.specs.declared.sums.Sums.{Sums}
use Rattle.zone_index.specs.Pages.{ArePages, page_weights}
use Rattle.zone_index.specs.Spans.{IsSum}

-- what is in a list in which one element was written
pub get-set : {X : Type 0} (xs : List X) (i j : ℕ) (w x : X) → slice_get (slice_set xs i w) j ≡ Some x → ((j ≡ i) × (w ≡ x)) ⊎ (slice_get xs j ≡ Some x)
get-set [] i j w x is = inr is
get-set (y ∷ ys) zero zero w x is = inl (refl, same_Some w x is)
get-set (y ∷ ys) zero (suc j) w x is = inr is
get-set (y ∷ ys) (suc i) zero w x is = inr is
get-set (y ∷ ys) (suc i) (suc j) w x is = elim (get-set ys i j w x is) [ inl p ↦ inl (ap suc p.0, p.1) | inr same ↦ inr same ]

module _ (z : ZoneState) (pages : List (Option Sums)) (a : ArePages z pages) where
  -- one more is known
  pub pages-more : (c : ℕ) (s : Sums) → IsSum (page_weights z c) s → ArePages z (slice_set pages c (Some s))
  pages-more c s sums = record {
    places = length-set pages c (Some s) ∙ a.places;
    known = λ j q is. elim (get-set pages c j (Some s) (Some q) is) [
      | inl p ↦ subst (λ j. IsSum (page_weights z j) q) (sym p.0) (subst (IsSum (page_weights z c)) (same_Some s q p.1) sums)
      | inr same ↦ a.known j q same
    ];
  }
