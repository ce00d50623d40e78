-- Stores that are read at most, and one store that is worked on.
use Rattle.std.proofs.Common.{◌≡◌, ◌∙◌, ℕ, zero, suc, ◌-◌, ◌≤◌, List, Option, slice_get, ap, arith, subst, sym, ⊎_elim}
use Rattle.std.proofs.lemmas.Bool.Decides.{eqb_tells}
use Rattle.fork_disk.specs.declared.store.ForkStore.{Ghosts}
use Rattle.res_files.specs.Crash.{OthersStay, history_of}
use Rattle.res_files.specs.FilesOn.{HonestAt, fork_of}
use Rattle.res_files.specs.Stores.{KeepsStores}

module _ {S : Type 0} (store : Ghosts S) where
  pub kept_same : (old new : List S) → new ≡ old → KeepsStores store old new
  kept_same old new same k honest = record {
    honest = subst (λ (stores : List S). HonestAt store.is_honest stores k) same honest;
    fork = ap (fork_of store.fork k) same;
    calm = ap (history_of store.history k) same;
  }

  pub kept_then : (first second third : List S) → KeepsStores store first second → KeepsStores store second third → KeepsStores store first third
  kept_then first second third one other k honest =
      let later = other k honest in
      let before = one k later.honest in
      record { honest = before.honest; fork = later.fork ∙ before.fork; calm = later.calm ∙ before.calm }

-- what holds of a store and itself, and of the store of one file, holds of that of each file
pub one_kept : {S : Type 0} (number : ℕ) (old new : List S) → OthersStay number old new → (R : Option S → Option S → Type 0) → ((o : Option S) → R o o)
    → R (slice_get old (number - 1)) (slice_get new (number - 1)) → (k : ℕ) → R (slice_get old (k - 1)) (slice_get new (k - 1))
one_kept {S} number old new others R same here k = by k
  where
    from_one : (k : ℕ) → 1 ≤ k → R (slice_get old (k - 1)) (slice_get new (k - 1))
    from_one k low = ⊎_elim
        (λ is. subst (λ (n : ℕ). R (slice_get old (n - 1)) (slice_get new (n - 1))) (sym is.1) here)
        (λ apart. subst (λ (found : Option S). R (slice_get old (k - 1)) found) (sym (others k low apart.1)) (same (slice_get old (k - 1)))) (eqb_tells k number)

    by : (k : ℕ) → R (slice_get old (k - 1)) (slice_get new (k - 1))
    by zero = from_one 1 (omega arith)
    by (suc at) = from_one (suc at) (omega arith)
