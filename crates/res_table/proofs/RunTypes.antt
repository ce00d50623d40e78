-- How many types there are, by the runs that stand for them, and the i-th of them.
use Rattle.std.proofs.Common.{◌≡◌, refl, sym, ap, ◌∙◌, arith, ℕ, zero, suc, ◌+◌, ◌-◌, ◌<◌, ◌≤◌, List, [], ◌∷◌, ◌++◌, length, map, get_or, replicate, slice_get, Bool, true, false, not, ◌&&◌, Option, None, Some, bytes_eq, if◌then◌else◌}
use Rattle.std.specs.Prelude.{nat_lt}
use Rattle.std.proofs.lemmas.Bool.{lt-ltb}
use Rattle.std.proofs.lemmas.Slice.Eq.{bytes_eq-Decides}
use Rattle.fork_bytes.specs.declared.layout.TypeCount.{TypeCount}
use Rattle.res_table.specs.Kinds.{is_run_of, kind_in, is_other, changes, ith, kind_of}

-- they are no more than there are
pub few_changes : (last : Option (List ℕ)) (ks : List (List ℕ)) → changes last ks ≤ length ks
few_changes last [] = omega arith
few_changes last (k ∷ ks) = by (is_other last k) (few_changes (Some k) ks)
  where
    by : (b : Bool) → changes (Some k) ks ≤ length ks → (if b then suc (changes (Some k) ks) else changes (Some k) ks) ≤ suc (length ks)
    by true few = omega arith
    by false few = omega arith

-- the same type as often as one likes isn't another
pub same_kind : (kind : List ℕ) → bytes_eq kind kind ≡ true
same_kind kind = (bytes_eq-Decides kind kind).1 refl

not_other : (kind : List ℕ) (n : ℕ) (ks : List (List ℕ)) → changes (Some kind) (replicate n kind ++ ks) ≡ changes (Some kind) ks
not_other kind zero ks = refl
not_other kind (suc n) ks =
    ap (λ (b : Bool). if not b then suc (changes (Some kind) (replicate n kind ++ ks)) else changes (Some kind) (replicate n kind ++ ks)) (same_kind kind) ∙ not_other kind n ks

some_rows : (n : ℕ) → nat_lt 0 (suc n) ≡ true
some_rows n = lt-ltb 0 (suc n) (omega arith)

-- a run after a type: it has one more, if it has rows of another
pub run_counted : (last : Option (List ℕ)) (kind : List ℕ) (n : ℕ) (ks : List (List ℕ))
    → changes last (replicate n kind ++ ks) ≡ (if is_other last kind && nat_lt 0 n then 1 else 0) + changes (if nat_lt 0 n then Some kind else last) ks
run_counted last kind zero ks = by (is_other last kind)
  where
    by : (b : Bool) → changes last ks ≡ (if b && false then 1 else 0) + changes last ks
    by true = omega arith
    by false = omega arith
run_counted last kind (suc n) ks =
    by (is_other last kind) ∙ sym (ap (λ (b : Bool). (if is_other last kind && b then 1 else 0) + changes (if b then Some kind else last) ks) (some_rows n))
  where
    by : (b : Bool) → (if b then suc (changes (Some kind) (replicate n kind ++ ks)) else changes (Some kind) (replicate n kind ++ ks)) ≡ (if b && true then 1 else 0) + changes (Some kind) ks
    by true = let same = not_other kind n ks in omega arith
    by false = let same = not_other kind n ks in omega arith

-- one is counted, or none
pub one_more : (b : Bool) → b ≡ true → ◌≡◌ {A = ℕ} (if b then 1 else 0) 1
one_more true is = refl
one_more false is = absurd (cc is)

pub none_more : (b : Bool) → b ≡ false → ◌≡◌ {A = ℕ} (if b then 1 else 0) 0
none_more true is = absurd (cc is)
none_more false is = refl

-- another type than that of the last run with rows
other_is : (kind : List ℕ) (last : TypeCount) → not (is_run_of kind last) ≡ is_other (kind_in last) kind
other_is kind last = by (bytes_eq last.kind kind) (nat_lt 0 last.count) refl
  where
    by : (same some : Bool) → bytes_eq last.kind kind ≡ same → not (same && some) ≡ is_other (if some then Some last.kind else None) kind
    by true true is = sym (ap not is)
    by false true is = sym (ap not is)
    by true false is = refl
    by false false is = refl

-- how many types there are after the last run with rows, by the next run
pub run_told : (last run next : TypeCount) (ks : List (List ℕ)) → kind_in next ≡ (if nat_lt 0 run.count then Some run.kind else kind_in last)
    → changes (kind_in last) (replicate run.count run.kind ++ ks) ≡ (if not (is_run_of run.kind last) && nat_lt 0 run.count then 1 else 0) + changes (kind_in next) ks
run_told last run next ks after =
    run_counted (kind_in last) run.kind run.count ks
    ∙ ap (λ (b : Bool). (if b && nat_lt 0 run.count then 1 else 0) + changes (if nat_lt 0 run.count then Some run.kind else kind_in last) ks) (sym (other_is run.kind last))
    ∙ ap (λ (k : Option (List ℕ)). (if not (is_run_of run.kind last) && nat_lt 0 run.count then 1 else 0) + changes k ks) (sym after)

-- the i-th of some types
pub ith_kind : (types : List TypeCount) (i : ℕ) (d : TypeCount) → 1 ≤ i → i ≤ length types → Some (get_or types (i - 1) d).kind ≡ ith i (map kind_of types)
ith_kind types zero d from within = absurd (omega (arith, from))
ith_kind types (suc i) d from within = let index : suc i - 1 ≡ i = omega arith in ap (λ (n : ℕ). Some (get_or types n d).kind) index ∙ by types i (omega (arith, within))
  where
    by : (types : List TypeCount) (i : ℕ) → i < length types → Some (get_or types i d).kind ≡ slice_get (map kind_of types) i
    by [] i within = absurd (omega (arith, within))
    by (run ∷ types) zero within = refl
    by (run ∷ types) (suc i) within = by types i (omega (arith, within))
