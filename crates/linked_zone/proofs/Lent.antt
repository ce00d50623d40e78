-- What is lent, where a map has other blocks.
use Rattle.std.proofs.Common.{◌≡◌, ℕ, ◌+◌, ◌<◌, ◌≤◌, Bool, true, false, not, ◌&&◌, ◌||◌, cond, eqb, List, [], ◌∷◌, ◌++◌, length, refl, ap, sym, ◌∙◌, subst, arith, append_assoc, length-append}
use Rattle.std.specs.List.{filter, list_all, list_any}
use Rattle.std.proofs.lemmas.List.Elements.{filter-append, filter_agree}
use Rattle.std.proofs.lemmas.List.Filters.{length-filter_both}
use Rattle.std.proofs.lemmas.List.Folds.{list_any-append}
use Rattle.std.proofs.lemmas.Map.Views.{any-filter_same}
use Rattle.std.proofs.lemmas.Bool.{or_parts, not-true, and_parts, eqb-true}
use Rattle.std.proofs.Math.Bool.{and-false}
use Rattle.mac_base.specs.declared.block.Entry.{Entry}
use Rattle.mac_base.specs.declared.block.Kind.{Kind}
use Rattle.mac_base.specs.declared.block.Kind.TheVariants.{Free, Master, Ptr, Rel}
use Rattle.mac_base.specs.HandleTable.{HandleTable, is_lent}
use Rattle.mac_base.specs.Heap.{Heap}
use Rattle.mac_base.specs.Loans.{LoansFit, most_loans, owner_of, owners, is_here, lent_out, returned}
use Rattle.mac_base.specs.ZoneMap.{ZoneMap, is_free, is_named}
use Rattle.zone_laws.proofs.Owners.{none_named}
use Rattle.zone_laws.proofs.Tables.{eqb_same}

-- ---- owners

-- those of two parts of a map
pub owners-append : (xs ys : ZoneMap) → owners (xs ++ ys) ≡ owners xs ++ owners ys
owners-append [] ys = refl
owners-append (e ∷ es) ys = ap (λ os. owner_of e.kind ++ os) (owners-append es ys) ∙ sym (append_assoc (owner_of e.kind) (owners es) (owners ys))

-- what names a block is its owner
pub owner-named : (x : ℕ) (k : Kind) → is_named x k ≡ true → owner_of k ≡ x ∷ []
owner-named x Free named = absurd (cc named)
owner-named x Master named = absurd (cc named)
owner-named x (Ptr p) named = ap (λ y. y ∷ []) (eqb-true p x named)
owner-named x (Rel h) named = ap (λ y. y ∷ []) (eqb-true h x named)

-- free blocks have none
pub owners-free : (m : ZoneMap) → list_all (λ (e : Entry). is_free e.kind) m ≡ true → owners m ≡ []
owners-free [] free = refl
owners-free (e ∷ es) free =
    let parts = and_parts (is_free e.kind) (list_all (λ (e : Entry). is_free e.kind) es) free in
    by_kind e.kind parts.0 ∙ owners-free es parts.1
  where
    by_kind : (k : Kind) → is_free k ≡ true → owner_of k ++ owners es ≡ owners es
    by_kind Free is = refl
    by_kind Master is = absurd (cc is)
    by_kind (Ptr p) is = absurd (cc is)
    by_kind (Rel h) is = absurd (cc is)

-- what names no block is no owner
pub owners-none : (x : ℕ) (m : ZoneMap) → none_named x m ≡ true → list_any (λ y. eqb y x) (owners m) ≡ false
owners-none x [] none = refl
owners-none x (e ∷ es) none =
    let parts = and_parts (not (is_named x e.kind)) (none_named x es) none in
    list_any-append (λ y. eqb y x) (owner_of e.kind) (owners es) ∙ ap (λ b. b || list_any (λ y. eqb y x) (owners es)) (by_kind e.kind parts.0) ∙ owners-none x es parts.1
  where
    by_kind : (k : Kind) → not (is_named x k) ≡ true → list_any (λ y. eqb y x) (owner_of k) ≡ false
    by_kind Free h = refl
    by_kind Master h = refl
    by_kind (Ptr p) h = ap (λ b. b || false) (not-true _ h)
    by_kind (Rel g) h = ap (λ b. b || false) (not-true _ h)

-- and what names one is one
pub owners-some : (x : ℕ) (before : ZoneMap) (e : Entry) (after : ZoneMap) → is_named x e.kind ≡ true → list_any (λ y. eqb y x) (owners (before ++ e ∷ after)) ≡ true
owners-some x before e after named =
    ap (list_any (λ y. eqb y x)) (owners-append before (e ∷ after) ∙ ap (λ os. owners before ++ (os ++ owners after)) (owner-named x e.kind named))
    ∙ list_any-append (λ y. eqb y x) (owners before) (x ∷ owners after) ∙ ap (λ b. list_any (λ y. eqb y x) (owners before) || (b || list_any (λ y. eqb y x) (owners after))) (eqb_same x)
    ∙ or_true (list_any (λ y. eqb y x) (owners before))
  where
    or_true : (b : Bool) → (b || true) ≡ true
    or_true true = refl
    or_true false = refl

-- ---- what is lent stays

-- what is lent is an owner
pub lent-owned : (heap : Heap) → LoansFit heap → (x : ℕ) → is_lent heap.table x ≡ (is_lent heap.table x && list_any (λ y. eqb y x) (owners heap.map))
lent-owned heap fit x = ap (list_any (λ y. eqb y x)) fit.in_order ∙ any-filter_same (λ y. eqb y x) (is_lent heap.table) (is_lent heap.table x) (λ y is. ap (is_lent heap.table) (eqb-true y x is)) (owners heap.map)

-- so what names no block isn't lent
pub not-lent : (heap : Heap) → LoansFit heap → (x : ℕ) → none_named x heap.map ≡ true → is_lent heap.table x ≡ false
not-lent heap fit x none = lent-owned heap fit x ∙ ap (λ b. is_lent heap.table x && b) (owners-none x heap.map none) ∙ and-false (is_lent heap.table x)

-- what is lent stays where a map has other blocks of which the same ones are lent
pub loans-kept : (heap now : Heap) → LoansFit heap → now.table.lent ≡ heap.table.lent → filter (is_lent heap.table) (owners now.map) ≡ filter (is_lent heap.table) (owners heap.map) → LoansFit now
loans-kept heap now fit same others = record {
  in_order = same ∙ fit.in_order ∙ sym others ∙ ap (λ xs. filter (λ y. list_any (λ z. eqb z y) xs) (owners now.map)) (sym same);
  few = subst (λ xs. length xs ≤ most_loans) (sym same) fit.few;
}

-- the lent ones of a map in three parts
pub lents-parts : (f : ℕ → Bool) (before part after : ZoneMap) → filter f (owners (before ++ (part ++ after))) ≡ filter f (owners before) ++ (filter f (owners part) ++ filter f (owners after))
lents-parts f before part after =
    ap (filter f) (owners-append before (part ++ after) ∙ ap (λ os. owners before ++ os) (owners-append part after))
    ∙ filter-append f (owners before) (owners part ++ owners after) ∙ ap (λ xs. filter f (owners before) ++ xs) (filter-append f (owners part) (owners after))

-- with another part, of which the same ones are lent, they are the same
pub loans-replaced : (heap now : Heap) (before left right after : ZoneMap) → LoansFit heap → now.table.lent ≡ heap.table.lent → heap.map ≡ before ++ (left ++ after) → now.map ≡ before ++ (right ++ after)
    → filter (is_lent heap.table) (owners right) ≡ filter (is_lent heap.table) (owners left) → LoansFit now
loans-replaced heap now before left right after fit lent was is same =
    let f = is_lent heap.table in
    loans-kept heap now fit lent
    (ap (λ m. filter f (owners m)) is ∙ lents-parts f before right after ∙ ap (λ xs. filter f (owners before) ++ (xs ++ filter f (owners after))) same
    ∙ sym (ap (λ m. filter f (owners m)) was ∙ lents-parts f before left after))

-- a block that isn't lent adds none
pub here-skip : (t : HandleTable) (e : Entry) (es : ZoneMap) → is_here t e.kind ≡ true → filter (is_lent t) (owners (e ∷ es)) ≡ filter (is_lent t) (owners es)
here-skip t e es here = filter-append (is_lent t) (owner_of e.kind) (owners es) ∙ ap (λ xs. xs ++ filter (is_lent t) (owners es)) (by_kind e.kind here)
  where
    by_kind : (k : Kind) → is_here t k ≡ true → filter (is_lent t) (owner_of k) ≡ []
    by_kind Free here = refl
    by_kind Master here = refl
    by_kind (Ptr p) here = ap (λ b. cond b (p ∷ []) []) (not-true _ here)
    by_kind (Rel h) here = ap (λ b. cond b (h ∷ []) []) (not-true _ here)

-- ---- one is lent

-- tests that differ at x alone keep the same of others
filter-others : (f g : ℕ → Bool) (x : ℕ) (xs : List ℕ) → list_any (λ y. eqb y x) xs ≡ false → ((y : ℕ) → eqb y x ≡ false → f y ≡ g y) → filter f xs ≡ filter g xs
filter-others f g x [] none same = refl
filter-others f g x (y ∷ ys) none same =
    let parts = or_parts (eqb y x) (list_any (λ y. eqb y x) ys) none in
    ap (λ b. cond b (y ∷ filter f ys) (filter f ys)) (same y parts.0) ∙ ap (λ zs. cond (g y) (y ∷ zs) zs) (filter-others f g x ys parts.1 same)

module _ (heap : Heap) (fit : LoansFit heap) (x : ℕ) (before : ZoneMap) (e : Entry) (after : ZoneMap) (was : heap.map ≡ before ++ e ∷ after) (named : is_named x e.kind ≡ true) where
  abbrev now : ℕ → Bool
  now y = eqb y x || is_lent heap.table y

  -- x is lent then, and the others as before
  pub lent_out-test : (y : ℕ) → is_lent (lent_out x heap).table y ≡ (eqb y x || is_lent heap.table y)
  lent_out-test y = any-filter_same (λ z. eqb z y) now (now y) (λ z is. ap now (eqb-true z y is)) (owners heap.map)
      ∙ by_test (eqb y x) (is_lent heap.table y) (list_any (λ z. eqb z y) (owners heap.map))
      (λ same. ap (λ n. list_any (λ z. eqb z n) (owners heap.map)) (eqb-true y x same) ∙ ap (λ m. list_any (λ z. eqb z x) (owners m)) was ∙ owners-some x before e after named) (lent-owned heap fit y)
    where
      by_test : (a l o : Bool) → (a ≡ true → o ≡ true) → l ≡ (l && o) → ((a || l) && o) ≡ (a || l)
      by_test true l o some owned = some refl
      by_test false true o some owned = sym owned
      by_test false false o some owned = refl

  -- what is lent fits, where one more may be
  pub lent_out-fits : none_named x before ≡ true → none_named x after ≡ true → length heap.table.lent < most_loans → LoansFit (lent_out x heap)
  lent_out-fits none_before none_after few =
      let others : (y : ℕ) → eqb y x ≡ false → now y ≡ is_lent heap.table y = λ y apart. ap (λ b. b || is_lent heap.table y) apart in
      let lower = filter-others now (is_lent heap.table) x (owners before) (owners-none x before none_before) others in
      let upper = filter-others now (is_lent heap.table) x (owners after) (owners-none x after none_after) others in
      let old = ap length fit.in_order ∙ count (is_lent heap.table) in
      let new = count now in
      let first = ap length lower in
      let last = ap length upper in
      let own : length (filter now (owners (e ∷ []))) ≡ length (cond (now x) (x ∷ []) []) = ap (λ os. length (filter now (os ++ []))) (owner-named x e.kind named) in
      let one = at_most (now x) in
      record { in_order = sym (filter_agree (is_lent (lent_out x heap).table) now lent_out-test (owners heap.map)); few = omega arith }
    where
      count : (f : ℕ → Bool) → length (filter f (owners heap.map)) ≡ length (filter f (owners before)) + (length (filter f (owners (e ∷ []))) + length (filter f (owners after)))
      count f = ap length (ap (λ m. filter f (owners m)) was ∙ lents-parts f before (e ∷ []) after)
          ∙ length-append (filter f (owners before)) (filter f (owners (e ∷ [])) ++ filter f (owners after))
          ∙ ap (λ n. length (filter f (owners before)) + n) (length-append (filter f (owners (e ∷ []))) (filter f (owners after)))

      at_most : (b : Bool) → length (cond b (x ∷ []) []) ≤ 1
      at_most true = omega arith
      at_most false = omega arith

-- ---- one has come back

-- what passes two tests, one after the other, passes both
filter-twice : (p q : ℕ → Bool) (xs : List ℕ) → filter p (filter q xs) ≡ filter (λ y. p y && q y) xs
filter-twice p q [] = refl
filter-twice p q (x ∷ xs) = by_test (q x) (filter-twice p q xs)
  where
    both : (a : Bool) → filter p (filter q xs) ≡ filter (λ y. p y && q y) xs → cond a (x ∷ filter p (filter q xs)) (filter p (filter q xs)) ≡ cond (a && true) (x ∷ filter (λ y. p y && q y) xs) (filter (λ y. p y && q y) xs)
    both true rest = ap (λ ys. x ∷ ys) rest
    both false rest = rest

    by_test : (b : Bool) → filter p (filter q xs) ≡ filter (λ y. p y && q y) xs → filter p (cond b (x ∷ filter q xs) (filter q xs)) ≡ cond (p x && b) (x ∷ filter (λ y. p y && q y) xs) (filter (λ y. p y && q y) xs)
    by_test true rest = both (p x) rest
    by_test false rest = rest ∙ ap (λ b. cond b (x ∷ filter (λ y. p y && q y) xs) (filter (λ y. p y && q y) xs)) (sym (and-false (p x)))

module _ (heap : Heap) (x : ℕ) (bytes : List ℕ) where
  abbrev stays : ℕ → Bool
  stays y = not (eqb y x)

  -- x isn't lent then, and the others as before
  pub returned-test : (y : ℕ) → is_lent (returned x bytes heap).table y ≡ (not (eqb y x) && is_lent heap.table y)
  returned-test y = any-filter_same (λ z. eqb z y) stays (stays y) (λ z is. ap stays (eqb-true z y is)) heap.table.lent

  -- what is lent fits
  pub returned-fits : LoansFit heap → LoansFit (returned x bytes heap)
  returned-fits fit =
      let both = length-filter_both stays (λ y. not (stays y)) (λ y. refl) heap.table.lent in
      let few = fit.few in
      record {
        in_order = ap (filter stays) fit.in_order ∙ filter-twice stays (is_lent heap.table) (owners heap.map) ∙ sym (filter_agree (is_lent (returned x bytes heap).table) (λ y. stays y && is_lent heap.table y) returned-test (owners heap.map));
        few = omega arith;
      }
