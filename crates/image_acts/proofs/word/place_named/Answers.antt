use Rattle.std.proofs.Common.{ℕ, List, inl, inr, refl, sym, ap, ◌∙◌, rules}
use Rattle.std.specs.Prelude.{◌==◌}
use Rattle.std.specs.List.{list_any}
use Rattle.image_acts.proofs.word.place_named.Goals.{then-eq-via-then-eq, then-eq-via-else-eq+then-not-contains}
use Rattle.image_acts.proofs.word.place_named.Goals as goal

pub returns-then-eq-clause-names : goal.returns-then-eq-clause-names
returns-then-eq-clause-names c = elim c.then-eq.branch [
  | then-eq-via-then-eq w ↦ inl (refl, refl, inl (search rules))
  | then-eq-via-else-eq+then-not-contains w ↦
      inl (refl, refl, inr (ap (λ (bytes : List ℕ). list_any (λ c. c == 58) bytes) (sym w.as_bytes.ensures.value) ∙ (sym w.contains.ensures.value ∙ w.if-not-contains.true)))
]
