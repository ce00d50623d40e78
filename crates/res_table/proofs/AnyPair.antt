-- Whether one of some pairs passes a test.
use Rattle.std.proofs.Common.{◌≡◌, refl, sym, ap, ◌∙◌, arith, ℕ, zero, suc, ◌<◌, ◌≤◌, List, [], ◌∷◌, length, get_or, drop, Bool, true, false, ◌||◌, ◌&&◌, ◌==◌, if◌then◌else◌}
use Rattle.std.specs.Prelude.{nat_lt}
use Rattle.std.specs.List.{list_any}
use Rattle.std.proofs.lemmas.Bool.Decides.{nat_tests}
use Rattle.std.proofs.lemmas.Bool.{ltb-true, ltb-false}
use Rattle.res_table.specs.declared.keyed.Pair.{Pair}
use Rattle.res_table.specs.Keyed.{is_before, rank, with_pair, NoneBefore, AreInOrder}
use Rattle.res_table.proofs.Pairs.{starts, none_at}

-- one that is put in
one_of_two : (a b c : Bool) → (a || (b || c)) ≡ (b || (a || c))
one_of_two true true c = refl
one_of_two true false c = refl
one_of_two false b c = refl

pub any_with : (test : Pair → Bool) (p : Pair) (ps : List Pair) → list_any test (with_pair p ps) ≡ (test p || list_any test ps)
any_with test p [] = refl
any_with test p (q ∷ qs) = by (is_before q p) (any_with test p qs)
  where
    by : (b : Bool) → list_any test (with_pair p qs) ≡ (test p || list_any test qs) → list_any test (if b then q ∷ with_pair p qs else p ∷ q ∷ qs) ≡ (test p || (test q || list_any test qs))
    by true deeper = ap (λ (t : Bool). test q || t) deeper ∙ one_of_two (test q) (test p) (list_any test qs)
    by false deeper = refl

-- the same key, or another
pub below : (g k : ℕ) → g < k → (g == k) ≡ false
below g k less = grind (arith, nat_tests)

pub above : (g k : ℕ) → k < g → (g == k) ≡ false
above g k less = grind (arith, nat_tests)

at_least : (g h a b : ℕ) → (nat_lt g h || (g == h && nat_lt a b)) ≡ false → h ≤ g
at_least g h a b first = grind (arith, nat_tests)

-- where none with a smaller key passes it, those from a key on decide
pub any_from : (test : Pair → Bool) (h : ℕ) (ps : List Pair) → ((p : Pair) → p.key < h → test p ≡ false) → list_any test ps ≡ list_any test (drop (rank (record { key = h; place = 0 }) ps) ps)
any_from test h [] none = refl
any_from test h (p ∷ ps) none = by (is_before p (record { key = h; place = 0 })) refl (any_from test h ps none)
  where
    r : ℕ
    r = rank (record { key = h; place = 0 }) ps

    by : (b : Bool) → is_before p (record { key = h; place = 0 }) ≡ b → list_any test ps ≡ list_any test (drop r ps) → (test p || list_any test ps) ≡ list_any test (drop (if b then suc r else 0) (p ∷ ps))
    by true e deeper = ap (λ (t : Bool). t || list_any test ps) (none p (ltb-true p.key h (sym (starts p h) ∙ e))) ∙ deeper
    by false e deeper = refl

-- where none with the key of a pair or a larger one passes it, none after that pair does
pub none_after : (test : Pair → Bool) (p : Pair) (ps : List Pair) → NoneBefore p ps → ((q : Pair) → p.key ≤ q.key → test q ≡ false) → list_any test ps ≡ false
none_after test p [] order none = refl
none_after test p (q ∷ qs) order none =
    ap (λ (t : Bool). t || list_any test qs) (none q (at_least q.key p.key q.place p.place order.0)) ∙ none_after test p qs order.1 none

-- those from a key on have no smaller key
pub least_key : (h : ℕ) (ps : List Pair) (i : ℕ) (d : Pair) → AreInOrder ps → i < length (drop (rank (record { key = h; place = 0 }) ps) ps) → h ≤ (get_or (drop (rank (record { key = h; place = 0 }) ps) ps) i d).key
least_key h [] i d order within = absurd (omega arith)
least_key h (p ∷ ps) i d order within = by (is_before p (record { key = h; place = 0 })) refl within (least_key h ps i d order.1)
  where
    r : ℕ
    r = rank (record { key = h; place = 0 }) ps

    from : (j : ℕ) → h ≤ p.key → j < length (p ∷ ps) → h ≤ (get_or (p ∷ ps) j d).key
    from zero least inside = least
    from (suc j) least inside =
        let later = at_least (get_or ps j d).key p.key (get_or ps j d).place p.place (none_at p ps j d order.0 (omega arith)) in omega arith

    by : (b : Bool) → is_before p (record { key = h; place = 0 }) ≡ b → i < length (drop (if b then suc r else 0) (p ∷ ps)) → (i < length (drop r ps) → h ≤ (get_or (drop r ps) i d).key)
        → h ≤ (get_or (drop (if b then suc r else 0) (p ∷ ps)) i d).key
    by true e inside deeper = deeper inside
    by false e inside deeper = from i (ltb-false p.key h (sym (starts p h) ∙ e)) inside
