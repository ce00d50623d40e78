-- Types clash where they are counted otherwise without regard to case.
use Rattle.std.proofs.Common.{◌≡◌, ℕ, ◌+◌, ◌<◌, ◌&&◌, ◌||◌, Bool, true, false, cond, eqb, List, [], ◌∷◌, inl, inr, refl, ap, arith}
use Rattle.std.specs.Prelude.{not, bytes_eq, count_by}
use Rattle.std.specs.List.{list_any}
use Rattle.std.proofs.lemmas.Bool.{cases_Bool, eqb-false, eqb-true}
use Rattle.std.proofs.lemmas.List.Sums.{sum_by-cons}
use Rattle.std.proofs.lemmas.Slice.Eq.{bytes_eq-Decides}
use Rattle.fork_bytes.specs.Rows.{Row}
use Rattle.fork_folder.specs.Names.{clash, folded}
use Rattle.fork_folder.specs.Unpacked.{types_of}

-- one count is less, or they are equal
abbrev Apart : Bool → ℕ → ℕ → Type 0
Apart true a b = a < b
Apart false a b = a ≡ b

-- the counts with one more, which the first counts only if the second does
step : (one other any : Bool) (a b : ℕ) → (one ≡ true → other ≡ true) → Apart any a b → Apart ((not one && other) || any) (cond one 1 0 + a) (cond other 1 0 + b)
step true true true a b both apart = omega (arith, apart)
step true true false a b both apart = omega (arith, apart)
step true false any a b both apart = absurd (let h = both refl in cc)
step false true true a b both apart = omega (arith, apart)
step false true false a b both apart = omega (arith, apart)
step false false true a b both apart = omega (arith, apart)
step false false false a b both apart = omega (arith, apart)

same_folded : (kind other : List ℕ) → bytes_eq other kind ≡ true → bytes_eq (folded other) (folded kind) ≡ true
same_folded kind other same = (bytes_eq-Decides (folded other) (folded kind)).1 (ap folded ((bytes_eq-Decides other kind).0 same))

counts : (kind : List ℕ) (rows : List Row)
    → Apart (list_any (clash kind) (types_of rows)) (count_by (λ row. bytes_eq row.kind kind) rows) (count_by (λ row. bytes_eq (folded row.kind) (folded kind)) rows)
counts kind [] = refl
counts kind (row ∷ rows) =
    rw (sum_by-cons (λ (row : Row). cond (bytes_eq row.kind kind) 1 0) row rows, sum_by-cons (λ (row : Row). cond (bytes_eq (folded row.kind) (folded kind)) 1 0) row rows)
    (step (bytes_eq row.kind kind) (bytes_eq (folded row.kind) (folded kind)) (list_any (clash kind) (types_of rows)) _ _ (same_folded kind row.kind) (counts kind rows))

differ : (any : Bool) (a b : ℕ) → Apart any a b → not (eqb a b) ≡ any
differ true a b apart = elim (cases_Bool (eqb a b)) [
  | inl same ↦ absurd (let e = eqb-true a b same in omega (arith, apart))
  | inr other ↦ rw other refl
]
differ false a b apart = elim (cases_Bool (eqb a b)) [
  | inl same ↦ rw same refl
  | inr other ↦ absurd (eqb-false a b other apart)
]

-- whether a type clashes with one of the rows'
pub clash_by_counts : (kind : List ℕ) (rows : List Row)
    → not (eqb (count_by (λ row. bytes_eq row.kind kind) rows) (count_by (λ row. bytes_eq (folded row.kind) (folded kind)) rows)) ≡ list_any (clash kind) (types_of rows)
clash_by_counts kind rows = differ (list_any (clash kind) (types_of rows)) _ _ (counts kind rows)
