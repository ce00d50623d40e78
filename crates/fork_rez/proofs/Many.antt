-- Things that are written one after the other are read again.
use Rattle.std.proofs.Common.{◌≡◌, ℕ, zero, suc, ◌+◌, ◌<◌, List, [], ◌∷◌, ◌++◌, length, map, Option, Some, None, Result, Ok, refl, sym, ap, ◌∙◌, append_assoc, append-nil, arith}
use Rattle.std.specs.List.{flat_map, fold, push, AllByRecursion}
use Rattle.std.proofs.lemmas.List.{length-append}
use Rattle.fork_rez.specs.declared.fault.Fault.{Fault}
use Rattle.fork_rez.specs.Reading.{◌>>=◌, if_there, many}

-- a text that goes on as another does
pub same_many : {A B : Type 0} (add : B → A → B) (item : List ℕ → Result (Option A × List ℕ) Fault) (n : ℕ) (so_far : B) (s t : List ℕ) → item s ≡ item t
    → many add item (suc n) so_far s ≡ many add item (suc n) so_far t
same_many {A = A} add item n so_far s t same =
    ap (λ (r : Result (Option A × List ℕ) Fault). r >>= λ next. if_there next.0 (λ one. many add item n (add so_far one) next.1) (Ok (so_far, next.1))) same

-- each thing is read with what is skipped before the next
module _ {A B X : Type 0} (add : B → A → B) (item : List ℕ → Result (Option A × List ℕ) Fault) (spell gap : X → List ℕ) (value : X → A) (P : X → Type 0)
    (each : (x : X) (rest : List ℕ) → P x → item (spell x ++ rest) ≡ Ok (Some (value x), gap x ++ rest))
    (skips : (x : X) (rest : List ℕ) → P x → item (gap x ++ rest) ≡ item rest) where
  pub many_again : (end after : List ℕ) → item end ≡ Ok (None, after) → (xs : List X) → AllByRecursion P xs → (n : ℕ) (so_far : B) → length xs < n
      → many add item n so_far (flat_map spell xs ++ end) ≡ Ok (fold (λ b x. add b (value x)) so_far xs, after)
  many_again end after stop [] all zero so_far short = absurd (omega arith)
  many_again end after stop [] all (suc n) so_far short = rw stop refl
  many_again end after stop (x ∷ xs) all zero so_far short = absurd (omega arith)
  many_again end after stop (x ∷ xs) all (suc zero) so_far short = absurd (omega arith)
  many_again end after stop (x ∷ xs) all (suc (suc n)) so_far short =
      let rest : List ℕ = flat_map spell xs ++ end in
      ap (many add item (suc (suc n)) so_far) (append_assoc (spell x) (flat_map spell xs) end)
      ∙ rw (each x rest all.0) (same_many add item n (add so_far (value x)) (gap x ++ rest) rest (skips x rest all.0)
      ∙ many_again end after stop xs all.1 (suc n) (add so_far (value x)) (omega arith))

-- there are no more of them than bytes
pub few : {X : Type 0} (spell : X → List ℕ) (P : X → Type 0) (some : (x : X) → P x → 0 < length (spell x)) (xs : List X) (end : List ℕ) → AllByRecursion P xs
    → length xs < suc (length (flat_map spell xs ++ end))
few spell P some [] end all = omega arith
few spell P some (x ∷ xs) end all =
    let others = few spell P some xs end all.1 in
    let one = some x all.0 in
    let long : length ((spell x ++ flat_map spell xs) ++ end) ≡ length (spell x) + length (flat_map spell xs ++ end) =
    ap (λ (t : List ℕ). length t) (append_assoc (spell x) (flat_map spell xs) end) ∙ length-append (spell x) (flat_map spell xs ++ end) in
    omega arith

-- those that are pushed
pub pushed : {X A : Type 0} (value : X → A) (so_far : List A) (xs : List X) → fold (λ b x. push b (value x)) so_far xs ≡ so_far ++ map value xs
pushed value so_far [] = sym (append-nil so_far)
pushed value so_far (x ∷ xs) = pushed value (push so_far (value x)) xs ∙ append_assoc so_far (value x ∷ []) (map value xs)

-- the same, for the bytes themselves
pub map_same : (xs : List ℕ) → map (λ x. x) xs ≡ xs
map_same [] = refl
map_same (x ∷ xs) = ap (λ (t : List ℕ). x ∷ t) (map_same xs)
