-- Rows that have one of some handles, by the rows of each of these.
use Rattle.std.proofs.Common.{◌≡◌, refl, sym, ap, ◌∙◌, arith, ℕ, suc, ◌+◌, ◌<◌, List, [], ◌∷◌, length, take, get_or, not, cond, ◌||◌, Bool, true, false, Option, None, Some}
use Rattle.std.specs.Prelude.{◌==◌, ◌&&◌, nat_lt, is_some, position}
use Rattle.std.specs.List.{list_any, position_or_len}
use Rattle.std.specs.Option.{option_map_or}
use Rattle.std.proofs.lemmas.Bool.{eqb-true, eq-eqb, lt-ltb, ltb-true}
use Rattle.std.proofs.lemmas.List.Folds.{list_any_at, list_any_more}
use Rattle.fork_bytes.specs.declared.place.Place.{Place}
use Rattle.res_table.specs.declared.row.Row.{Row}
use Rattle.res_table.specs.Rows.{has_handle, is_changed}
use Rattle.res_files.specs.Handles.{is_among}

-- whether a row counts and has one of these handles: each counts, or just a changed one
abbrev pub counts_among : {D : Type 0} → Bool → List ℕ → Row D → Bool
counts_among just_changed handles r = (not just_changed || is_changed r) && is_among handles r

-- whether a row counts and has this handle: each counts, or just a changed one
abbrev pub counts_with : Bool → ℕ → Row Place → Bool
counts_with just_changed h r = (not just_changed || is_changed r) && has_handle h r

or_right : (a : Bool) → (a || true) ≡ true
or_right true = refl
or_right false = refl

equal_sym : (a b : ℕ) → (a == b) ≡ (b == a)
equal_sym a b = by (a == b) (b == a) refl refl
  where
    by : (x y : Bool) → (a == b) ≡ x → (b == a) ≡ y → x ≡ y
    by true true here there = refl
    by false false here there = refl
    by true false here there = absurd (cc (sym there ∙ eq-eqb b a (sym (eqb-true a b here))))
    by false true here there = absurd (cc (sym here ∙ eq-eqb a b (sym (eqb-true b a there))))

-- no row counts and has one of no handles
pub among_none : (just_changed : Bool) (rows : List (Row Place)) → list_any (counts_among just_changed []) rows ≡ false
among_none just_changed [] = refl
among_none just_changed (r ∷ rows) = ap (λ b. b || list_any (counts_among just_changed []) rows) (by (not just_changed || is_changed r) r.handle) ∙ among_none just_changed rows
  where
    none : List ℕ
    none = []

    by : (counts : Bool) (h : Option ℕ) → (counts && option_map_or (λ h. list_any (λ x. x == h) none) h false) ≡ false
    by false h = refl
    by true None = refl
    by true (Some h) = refl

module _ (just_changed : Bool) (handles : List ℕ) (i d : ℕ) (within : i < length handles) where
  abbrev this : ℕ
  this = get_or handles i d

  among_this : (r : Row Place) → counts_with just_changed this r ≡ true → counts_among just_changed handles r ≡ true
  among_this r = by (not just_changed || is_changed r) r.handle
    where
      by : (counts : Bool) (h : Option ℕ) → (counts && option_map_or (λ g. g == this) h false) ≡ true → (counts && option_map_or (λ h. list_any (λ x. x == h) handles) h false) ≡ true
      by false h is = is
      by true None is = absurd (cc is)
      by true (Some h) is = list_any_at (λ x. x == h) handles i d within (equal_sym this h ∙ is)

  -- a row that counts and has this one has one of all
  pub any_this : (rows : List (Row Place)) → list_any (counts_with just_changed this) rows ≡ true → list_any (counts_among just_changed handles) rows ≡ true
  any_this [] is = absurd (cc is)
  any_this (r ∷ rows) is = by (counts_with just_changed this r) refl is (any_this rows)
    where
      by : (b : Bool) → counts_with just_changed this r ≡ b → (b || list_any (counts_with just_changed this) rows) ≡ true
          → (list_any (counts_with just_changed this) rows ≡ true → list_any (counts_among just_changed handles) rows ≡ true)
          → (counts_among just_changed handles r || list_any (counts_among just_changed handles) rows) ≡ true
      by true has is deeper = ap (λ b. b || list_any (counts_among just_changed handles) rows) (among_this r has)
      by false has is deeper = ap (λ b. counts_among just_changed handles r || b) (deeper is) ∙ or_right (counts_among just_changed handles r)

  among_more : (r : Row Place) → counts_among just_changed (take (i + 1) handles) r ≡ (counts_among just_changed (take i handles) r || counts_with just_changed this r)
  among_more r = by (not just_changed || is_changed r) r.handle
    where
      by : (counts : Bool) (h : Option ℕ) → (counts && option_map_or (λ h. list_any (λ x. x == h) (take (i + 1) handles)) h false)
          ≡ ((counts && option_map_or (λ h. list_any (λ x. x == h) (take i handles)) h false) || (counts && option_map_or (λ g. g == this) h false))
      by false h = refl
      by true None = refl
      by true (Some h) = list_any_more (λ x. x == h) handles i d within ∙ ap (λ b. list_any (λ x. x == h) (take i handles) || b) (equal_sym this h)

  -- where no row counts and has one of those before it, and none has this one, none has one of those up to it
  pub none_more : (rows : List (Row Place)) → list_any (counts_among just_changed (take i handles)) rows ≡ false → list_any (counts_with just_changed this) rows ≡ false
      → list_any (counts_among just_changed (take (i + 1) handles)) rows ≡ false
  none_more [] none_before none_here = refl
  none_more (r ∷ rows) none_before none_here =
      let before = neither (counts_among just_changed (take i handles) r) (list_any (counts_among just_changed (take i handles)) rows) none_before in
      let here = neither (counts_with just_changed this r) (list_any (counts_with just_changed this) rows) none_here in
      ap (λ b. b || list_any (counts_among just_changed (take (i + 1) handles)) rows) (among_more r ∙ ap (λ b. b || counts_with just_changed this r) before.0 ∙ here.0)
      ∙ none_more rows before.1 here.1
    where
      neither : (a b : Bool) → (a || b) ≡ false → (a ≡ false) × (b ≡ false)
      neither true b is = absurd (cc is)
      neither false b is = (refl, is)

-- the place of the first that passes says whether there is one
one_less : (a n : ℕ) → nat_lt (1 + a) (suc n) ≡ nat_lt a n
one_less a n = by (nat_lt (1 + a) (suc n)) (nat_lt a n) refl refl
  where
    by : (x y : Bool) → nat_lt (1 + a) (suc n) ≡ x → nat_lt a n ≡ y → x ≡ y
    by true true here there = refl
    by false false here there = refl
    by true false here there = let less = ltb-true (1 + a) (suc n) here in absurd (cc (sym there ∙ lt-ltb a n (omega (arith, less))))
    by false true here there = let less = ltb-true a n there in absurd (cc (sym here ∙ lt-ltb (1 + a) (suc n) (omega (arith, less))))

before_end : {X : Type 0} (test : X → Bool) (xs : List X) → nat_lt (position_or_len test xs) (length xs) ≡ list_any test xs
before_end test [] = refl
before_end test (x ∷ xs) = by (test x) (before_end test xs)
  where
    by : (b : Bool) → nat_lt (position_or_len test xs) (length xs) ≡ list_any test xs → nat_lt (cond (not b) (1 + position_or_len test xs) 0) (suc (length xs)) ≡ (b || list_any test xs)
    by true deeper = lt-ltb 0 (suc (length xs)) (omega arith)
    by false deeper = one_less (position_or_len test xs) (length xs) ∙ deeper

pub some_position : {X : Type 0} (test : X → Bool) (xs : List X) → is_some (position test xs) ≡ list_any test xs
some_position test xs = by (nat_lt (position_or_len test xs) (length xs)) (position_or_len test xs) ∙ before_end test xs
  where
    by : (b : Bool) (i : ℕ) → is_some (cond b (Some i) None) ≡ b
    by true i = refl
    by false i = refl
