-- The rows that have a key, in the order of keys.
use Rattle.std.proofs.Common.{◌≡◌, refl, sym, ap, ◌∙◌, arith, ℕ, zero, suc, ◌+◌, ◌-◌, ◌<◌, ◌≤◌, List, [], ◌∷◌, length, map, get_or, take, drop, remove, Bool, true, false, ◌||◌, ◌&&◌, ◌==◌, Option, Some, None, if◌then◌else◌}
use Rattle.std.specs.Prelude.{insert, nat_lt, nat_le, not, IsTrue, ◌↔◌}
use Rattle.std.specs.List.Sorted.{IsPartitionedBy}
use Rattle.std.proofs.lemmas.Bool.Decides.{nat_tests}
use Rattle.res_table.specs.declared.keyed.Pair.{Pair}
use Rattle.res_table.specs.Keyed.{is_before, rank, with_pair, without_pair, with_key, without_key, pushed_back, pulled_up, first_place, NoneBefore, AreInOrder}

-- pairs are in an order
by_numbers : (g h a b : ℕ) → (nat_lt g h || (g == h && nat_lt a b)) ≡ true → (nat_lt h g || (h == g && nat_lt b a)) ≡ false
by_numbers g h a b is = grind (arith, nat_tests)

pub never_both : (p q : Pair) → is_before p q ≡ true → is_before q p ≡ false
never_both p q is = by_numbers p.key q.key p.place q.place is

through : (g h i a b c : ℕ) → (nat_lt h g || (h == g && nat_lt b a)) ≡ false → (nat_lt i h || (i == h && nat_lt c b)) ≡ false → (nat_lt i g || (i == g && nat_lt c a)) ≡ false
through g h i a b c first second = grind (arith, nat_tests)

pub none_through : (p q r : Pair) → is_before q p ≡ false → is_before r q ≡ false → is_before r p ≡ false
none_through p q r first second = through p.key q.key r.key p.place q.place r.place first second

onto : (g h i a b c : ℕ) → (nat_lt g h || (g == h && nat_lt a b)) ≡ true → (nat_lt g i || (g == i && nat_lt a c)) ≡ false → (nat_lt i h || (i == h && nat_lt c b)) ≡ true
onto g h i a b c first second = grind (arith, nat_tests)

-- what is before one, and not before another
pub between : (z x y : Pair) → is_before z x ≡ true → is_before z y ≡ false → is_before y x ≡ true
between z x y first second = onto z.key x.key y.key z.place x.place y.place first second

not_itself : (g a : ℕ) → (nat_lt g g || (g == g && nat_lt a a)) ≡ false
not_itself g a = grind (arith, nat_tests)

pub never_itself : (p : Pair) → is_before p p ≡ false
never_itself p = not_itself p.key p.place

tied : (g h a b : ℕ) → (nat_lt g h || (g == h && nat_lt a b)) ≡ false → (nat_lt h g || (h == g && nat_lt b a)) ≡ false → (g ≡ h) × (a ≡ b)
tied g h a b first second = (grind (arith, nat_tests), grind (arith, nat_tests))

same_pair : (p q : Pair) → p.key ≡ q.key → p.place ≡ q.place → p ≡ q
same_pair p q handles places =
    ap (λ (h : ℕ). let pair : Pair = record { key = h; place = p.place } in pair) handles ∙ ap (λ (a : ℕ). let pair : Pair = record { key = q.key; place = a } in pair) places

pub neither : (p q : Pair) → is_before p q ≡ false → is_before q p ≡ false → p ≡ q
neither p q first second = let e = tied p.key q.key p.place q.place first second in same_pair p q e.0 e.1

-- two pairs at the front
two : (x y : Pair) (ps : List Pair) → (if is_before y x then y ∷ x ∷ ps else x ∷ y ∷ ps) ≡ (if is_before x y then x ∷ y ∷ ps else y ∷ x ∷ ps)
two x y ps = by (is_before y x) (is_before x y) refl refl
  where
    by : (b c : Bool) → is_before y x ≡ b → is_before x y ≡ c → (if b then y ∷ x ∷ ps else x ∷ y ∷ ps) ≡ (if c then x ∷ y ∷ ps else y ∷ x ∷ ps)
    by true true e f = absurd (let g = never_both y x e in cc)
    by true false e f = refl
    by false true e f = refl
    by false false e f = let s : x ≡ y = neither x y f e in ap (λ (z : Pair). z ∷ y ∷ ps) s ∙ ap (λ (z : Pair). y ∷ z ∷ ps) (sym s)

-- it doesn't matter which of two pairs is put in first
pub commute : (x y : Pair) (ps : List Pair) → with_pair x (with_pair y ps) ≡ with_pair y (with_pair x ps)
commute x y [] = two x y []
commute x y (z ∷ zs) = by (is_before z x) (is_before z y) refl refl (commute x y zs)
  where
    by : (b c : Bool) → is_before z x ≡ b → is_before z y ≡ c → with_pair x (with_pair y zs) ≡ with_pair y (with_pair x zs)
        → with_pair x (if c then z ∷ with_pair y zs else y ∷ z ∷ zs) ≡ with_pair y (if b then z ∷ with_pair x zs else x ∷ z ∷ zs)
    by true true e f deeper = rw (e, f) (ap (λ (ps : List Pair). z ∷ ps) deeper)
    by true false e f deeper = rw (between z x y e f, e, f) refl
    by false true e f deeper = rw (between z y x f e, e, f) refl
    by false false e f deeper = rw (e, f) (two x y (z ∷ zs))

pub commute_key : (g h : Option ℕ) (a b : ℕ) (ps : List Pair) → with_key g a (with_key h b ps) ≡ with_key h b (with_key g a ps)
commute_key None h a b ps = refl
commute_key (Some g) None a b ps = refl
commute_key (Some g) (Some h) a b ps = commute _ _ ps

-- a pair is at its rank
pub insert_is : (p : Pair) (ps : List Pair) → insert ps (rank p ps) p ≡ with_pair p ps
insert_is p [] = refl
insert_is p (q ∷ qs) = by (is_before q p) (insert_is p qs)
  where
    by : (b : Bool) → insert qs (rank p qs) p ≡ with_pair p qs → insert (q ∷ qs) (if b then suc (rank p qs) else 0) p ≡ (if b then q ∷ with_pair p qs else p ∷ q ∷ qs)
    by true deeper = ap (λ (rs : List Pair). q ∷ rs) deeper
    by false deeper = refl

pub without_with : (p : Pair) (ps : List Pair) → without_pair p (with_pair p ps) ≡ ps
without_with p [] = rw (never_itself p) refl
without_with p (q ∷ qs) = by (is_before q p) refl (without_with p qs)
  where
    by : (b : Bool) → is_before q p ≡ b → without_pair p (with_pair p qs) ≡ qs → without_pair p (if b then q ∷ with_pair p qs else p ∷ q ∷ qs) ≡ q ∷ qs
    by true e deeper = rw e (ap (λ (rs : List Pair). q ∷ rs) deeper)
    by false e deeper = rw (never_itself p) refl

pub without_key_with : (h : Option ℕ) (a : ℕ) (ps : List Pair) → without_key h a (with_key h a ps) ≡ ps
without_key_with None a ps = refl
without_key_with (Some h) a ps = without_with _ ps

-- pairs move, and stay in their order
moved : (k g h a b : ℕ) → is_before (pushed_back k (record { key = g; place = a })) (pushed_back k (record { key = h; place = b })) ≡ (nat_lt g h || (g == h && nat_lt a b))
moved k g h a b = by (nat_le k a) (nat_le k b) refl refl
  where
    by : (c d : Bool) → nat_le k a ≡ c → nat_le k b ≡ d
        → is_before (if c then record { key = g; place = a + 1 } else record { key = g; place = a }) (if d then record { key = h; place = b + 1 } else record { key = h; place = b })
        ≡ (nat_lt g h || (g == h && nat_lt a b))
    by true true e f = let s : nat_lt (a + 1) (b + 1) ≡ nat_lt a b = grind (arith, nat_tests) in ap (λ (t : Bool). nat_lt g h || (g == h && t)) s
    by true false e f = let s : nat_lt (a + 1) b ≡ nat_lt a b = grind (arith, nat_tests) in ap (λ (t : Bool). nat_lt g h || (g == h && t)) s
    by false true e f = let s : nat_lt a (b + 1) ≡ nat_lt a b = grind (arith, nat_tests) in ap (λ (t : Bool). nat_lt g h || (g == h && t)) s
    by false false e f = refl

pub same_order : (k : ℕ) (p q : Pair) → is_before (pushed_back k p) (pushed_back k q) ≡ is_before p q
same_order k p q = moved k p.key q.key p.place q.place

pub push_with : (k : ℕ) (p : Pair) (ps : List Pair) → map (pushed_back k) (with_pair p ps) ≡ with_pair (pushed_back k p) (map (pushed_back k) ps)
push_with k p [] = refl
push_with k p (q ∷ qs) = by (is_before q p) (same_order k q p) (push_with k p qs)
  where
    by : (b : Bool) → is_before (pushed_back k q) (pushed_back k p) ≡ b → map (pushed_back k) (with_pair p qs) ≡ with_pair (pushed_back k p) (map (pushed_back k) qs)
        → map (pushed_back k) (if b then q ∷ with_pair p qs else p ∷ q ∷ qs) ≡ with_pair (pushed_back k p) (pushed_back k q ∷ map (pushed_back k) qs)
    by true e deeper = rw e (ap (λ (rs : List Pair). pushed_back k q ∷ rs) deeper)
    by false e deeper = rw e refl

pub push_at : (k a b : ℕ) (h : Option ℕ) (ps : List Pair) → ((g : ℕ) → pushed_back k (record { key = g; place = a }) ≡ record { key = g; place = b }) → map (pushed_back k) (with_key h a ps) ≡ with_key h b (map (pushed_back k) ps)
push_at k a b None ps is = refl
push_at k a b (Some g) ps is = push_with k _ ps ∙ ap (λ (p : Pair). with_pair p (map (pushed_back k) ps)) (is g)

pub after : (k a : ℕ) (g : ℕ) → k ≤ a → pushed_back k (record { key = g; place = a }) ≡ record { key = g; place = a + 1 }
after k a g at_least = let e : nat_le k a ≡ true = grind (arith, nat_tests) in rw e refl

pub before : (k a : ℕ) (g : ℕ) → a < k → pushed_back k (record { key = g; place = a }) ≡ record { key = g; place = a }
before k a g below = let e : nat_le k a ≡ false = grind (arith, nat_tests) in rw e refl

-- and taken out
back : (k g a : ℕ) → pulled_up k (pushed_back k (record { key = g; place = a })) ≡ record { key = g; place = a }
back k g a = by (nat_le k a) refl
  where
    by : (b : Bool) → nat_le k a ≡ b → pulled_up k (if b then record { key = g; place = a + 1 } else record { key = g; place = a }) ≡ record { key = g; place = a }
    by true e = let f : nat_lt k (a + 1) ≡ true = grind (arith, nat_tests) in let s : (a + 1) - 1 ≡ a = omega arith in rw (f, s) refl
    by false e = let f : nat_lt k a ≡ false = grind (arith, nat_tests) in rw f refl

pub pull_push : (k : ℕ) (ps : List Pair) → map (pulled_up k) (map (pushed_back k) ps) ≡ ps
pull_push k [] = refl
pull_push k (p ∷ ps) = ap (λ (q : Pair). q ∷ map (pulled_up k) (map (pushed_back k) ps)) (back k p.key p.place) ∙ ap (λ (qs : List Pair). p ∷ qs) (pull_push k ps)

-- there is one more of them
pub length-with : (p : Pair) (ps : List Pair) → length (with_pair p ps) ≡ suc (length ps)
length-with p [] = refl
length-with p (q ∷ qs) = by (is_before q p) (length-with p qs)
  where
    by : (b : Bool) → length (with_pair p qs) ≡ suc (length qs) → length (if b then q ∷ with_pair p qs else p ∷ q ∷ qs) ≡ suc (suc (length qs))
    by true deeper = ap suc deeper
    by false deeper = refl

-- they are in order
none_before_with : (q p : Pair) (ps : List Pair) → is_before p q ≡ false → NoneBefore q ps → NoneBefore q (with_pair p ps)
none_before_with q p [] first none = (first, tt)
none_before_with q p (r ∷ rs) first none = by (is_before r p) (none_before_with q p rs first none.1)
  where
    by : (b : Bool) → NoneBefore q (with_pair p rs) → NoneBefore q (if b then r ∷ with_pair p rs else p ∷ r ∷ rs)
    by true deeper = (none.0, deeper)
    by false deeper = (first, none)

pub none_before_through : (p q : Pair) (rs : List Pair) → is_before q p ≡ false → NoneBefore q rs → NoneBefore p rs
none_before_through p q [] first none = tt
none_before_through p q (r ∷ rs) first none = (none_through p q r first none.0, none_before_through p q rs first none.1)

pub order_with : (p : Pair) (ps : List Pair) → AreInOrder ps → AreInOrder (with_pair p ps)
order_with p [] order = (tt, tt)
order_with p (q ∷ qs) order = by (is_before q p) refl (order_with p qs order.1)
  where
    by : (b : Bool) → is_before q p ≡ b → AreInOrder (with_pair p qs) → AreInOrder (if b then q ∷ with_pair p qs else p ∷ q ∷ qs)
    by true e deeper = (none_before_with q p qs (never_both q p e) order.0, deeper)
    by false e deeper = ((e, none_before_through p q qs e order.0), order)

-- without one of them too
none_before_removed : (p : Pair) (ps : List Pair) (i : ℕ) → NoneBefore p ps → NoneBefore p (remove ps i)
none_before_removed p [] zero none = tt
none_before_removed p [] (suc i) none = tt
none_before_removed p (q ∷ qs) zero none = none.1
none_before_removed p (q ∷ qs) (suc i) none = (none.0, none_before_removed p qs i none.1)

order_removed : (ps : List Pair) (i : ℕ) → AreInOrder ps → AreInOrder (remove ps i)
order_removed [] zero order = tt
order_removed [] (suc i) order = tt
order_removed (q ∷ qs) zero order = order.1
order_removed (q ∷ qs) (suc i) order = (none_before_removed q qs i order.0, order_removed qs i order.1)

pub order_without : (h : Option ℕ) (a : ℕ) (ps : List Pair) → AreInOrder ps → AreInOrder (without_key h a ps)
order_without None a ps order = order
order_without (Some g) a ps order = order_removed ps _ order

-- those before a pair are at the front
pub none_at : (p : Pair) (ps : List Pair) (j : ℕ) (d : Pair) → NoneBefore p ps → j < length ps → is_before (get_or ps j d) p ≡ false
none_at p [] j d none within = absurd (omega arith)
none_at p (q ∷ qs) zero d none within = none.0
none_at p (q ∷ qs) (suc j) d none within = none_at p qs j d none.1 (omega arith)

pub partitioned : (x : Pair) (ps : List Pair) → AreInOrder ps → IsPartitionedBy (λ p. is_before p x) ps
partitioned x [] order i j d up within is = absurd (omega arith)
partitioned x (p ∷ ps) order zero zero d up within is = is
partitioned x (p ∷ ps) order zero (suc j) d up within is = by (is_before p x) refl
  where
    by : (b : Bool) → is_before p x ≡ b → b ≡ true
    by true e = refl
    by false e = let later = none_at p ps j d order.0 (omega arith) in absurd (let none = none_through x p (get_or ps j d) e later in cc)
partitioned x (p ∷ ps) order (suc i) zero d up within is = absurd (omega arith)
partitioned x (p ∷ ps) order (suc i) (suc j) d up within is = partitioned x ps order.1 i j d (omega arith) (omega arith) is

pub rank_is : (x : Pair) (ps : List Pair) (i : ℕ) → i ≤ length ps → ((k : ℕ) (d : Pair) → k < i → is_before (get_or ps k d) x ≡ true) → ((k : ℕ) (d : Pair) → i ≤ k → k < length ps → is_before (get_or ps k d) x ≡ false) → i ≡ rank x ps
rank_is x [] i within below above = omega arith
rank_is x (p ∷ ps) zero within below above = rw (above 0 p (omega arith) (omega arith)) refl
rank_is x (p ∷ ps) (suc i) within below above =
    rw (below 0 p (omega arith)) (ap suc (rank_is x ps i (omega arith) (λ k d less. below (suc k) d (omega arith)) (λ k d least less. above (suc k) d (omega arith) (omega arith))))

-- a pair belongs after those before it, and not after others
pub rank_over : (x : Pair) (ps : List Pair) (i : ℕ) (d : Pair) → AreInOrder ps → i < length ps → is_before (get_or ps i d) x ≡ true → i < rank x ps
rank_over x [] i d order within is = absurd (omega arith)
rank_over x (p ∷ ps) zero d order within is = rw is (omega arith)
rank_over x (p ∷ ps) (suc i) d order within is = rw (partitioned x (p ∷ ps) order 0 (suc i) d (omega arith) within is) (let deeper = rank_over x ps i d order.1 (omega arith) is in omega arith)

pub rank_up_to : (x : Pair) (ps : List Pair) (i : ℕ) (d : Pair) → i < length ps → is_before (get_or ps i d) x ≡ false → rank x ps ≤ i
rank_up_to x [] i d within is = absurd (omega arith)
rank_up_to x (p ∷ ps) zero d within is = rw is (omega arith)
rank_up_to x (p ∷ ps) (suc i) d within is = by (is_before p x) (rank_up_to x ps i d (omega arith) is)
  where
    by : (b : Bool) → rank x ps ≤ i → (if b then suc (rank x ps) else 0) ≤ suc i
    by true deeper = omega arith
    by false deeper = omega arith

-- as a test says
pub told_from : (x : Pair) (ps : List Pair) (i at : ℕ) (d : Pair) (test : Bool) → AreInOrder ps → at ≡ i + 1 → i < length ps → test ≡ is_before (get_or ps i d) x → IsTrue test ↔ at ≤ rank x ps
told_from x ps i at d true order next within is = (λ t. let over = rank_over x ps i d order within (sym is) in omega arith, λ from. refl)
told_from x ps i at d false order next within is = (λ t. absurd (cc t), λ from. absurd (let up = rank_up_to x ps i d within (sym is) in omega arith))

pub told_up_to : (x : Pair) (ps : List Pair) (i : ℕ) (d : Pair) (test : Bool) → AreInOrder ps → i < length ps → test ≡ is_before (get_or ps i d) x → IsTrue (not test) ↔ rank x ps ≤ i
told_up_to x ps i d true order within is = (λ t. absurd (cc t), λ up. absurd (let over = rank_over x ps i d order within (sym is) in omega arith))
told_up_to x ps i d false order within is = (λ t. rank_up_to x ps i d within (sym is), λ up. refl)

-- where it belongs among some of them
rank_dropped : (x : Pair) (ps : List Pair) (n : ℕ) → n ≤ rank x ps → rank x ps ≡ n + rank x (drop n ps)
rank_dropped x ps zero from = omega arith
rank_dropped x [] (suc n) from = absurd (omega arith)
rank_dropped x (p ∷ ps) (suc n) from = by (is_before p x) from (rank_dropped x ps n)
  where
    by : (b : Bool) → suc n ≤ (if b then suc (rank x ps) else 0) → (n ≤ rank x ps → rank x ps ≡ n + rank x (drop n ps)) → (if b then suc (rank x ps) else 0) ≡ suc n + rank x (drop n ps)
    by true over deeper = let e = deeper (omega arith) in omega arith
    by false over deeper = absurd (omega arith)

rank_taken : (x : Pair) (ps : List Pair) (n : ℕ) → rank x ps ≤ n → rank x (take n ps) ≡ rank x ps
rank_taken x [] zero up = refl
rank_taken x [] (suc n) up = refl
rank_taken x (p ∷ ps) zero up = omega arith
rank_taken x (p ∷ ps) (suc n) up = by (is_before p x) up (rank_taken x ps n)
  where
    by : (b : Bool) → (if b then suc (rank x ps) else 0) ≤ suc n → (rank x ps ≤ n → rank x (take n ps) ≡ rank x ps) → (if b then suc (rank x (take n ps)) else 0) ≡ (if b then suc (rank x ps) else 0)
    by true over deeper = ap suc (deeper (omega arith))
    by false over deeper = refl

pub rank_between : (x : Pair) (ps : List Pair) (from to : ℕ) → from ≤ rank x ps → rank x ps ≤ to → rank x ps ≡ from + rank x (take (to - from) (drop from ps))
rank_between x ps from to least most =
    let e = rank_dropped x ps from least in
    let f : rank x (take (to - from) (drop from ps)) ≡ rank x (drop from ps) = rank_taken x (drop from ps) (to - from) (omega arith) in omega arith

-- some of them in a row are in order too
pub order_dropped : (ps : List Pair) (n : ℕ) → AreInOrder ps → AreInOrder (drop n ps)
order_dropped ps zero order = order
order_dropped [] (suc n) order = tt
order_dropped (p ∷ ps) (suc n) order = order_dropped ps n order.1

none_before_taken : (p : Pair) (ps : List Pair) (n : ℕ) → NoneBefore p ps → NoneBefore p (take n ps)
none_before_taken p [] zero none = tt
none_before_taken p [] (suc n) none = tt
none_before_taken p (q ∷ qs) zero none = tt
none_before_taken p (q ∷ qs) (suc n) none = (none.0, none_before_taken p qs n none.1)

pub order_taken : (ps : List Pair) (n : ℕ) → AreInOrder ps → AreInOrder (take n ps)
order_taken [] zero order = tt
order_taken [] (suc n) order = tt
order_taken (p ∷ ps) zero order = tt
order_taken (p ∷ ps) (suc n) order = (none_before_taken p ps n order.0, order_taken ps n order.1)

pub rank_within : (x : Pair) (ps : List Pair) → rank x ps ≤ length ps
rank_within x [] = omega arith
rank_within x (p ∷ ps) = by (is_before p x) (rank_within x ps)
  where
    by : (b : Bool) → rank x ps ≤ length ps → (if b then suc (rank x ps) else 0) ≤ suc (length ps)
    by true deeper = omega arith
    by false deeper = omega arith

-- the first pair of a key
pub first_none : (h : ℕ) (ps : List Pair) → length ps ≤ rank (record { key = h; place = 0 }) ps → first_place h ps ≡ None
first_none h [] past = refl
first_none h (p ∷ ps) past = by (is_before p (record { key = h; place = 0 })) past (first_none h ps)
  where
    by : (b : Bool) → suc (length ps) ≤ (if b then suc (rank (record { key = h; place = 0 }) ps) else 0) → (length ps ≤ rank (record { key = h; place = 0 }) ps → first_place h ps ≡ None)
        → (if b then first_place h ps else if p.key == h then Some p.place else None) ≡ None
    by true over deeper = deeper (omega arith)
    by false over deeper = absurd (omega arith)

pub first_some : (h : ℕ) (ps : List Pair) (d : Pair) → rank (record { key = h; place = 0 }) ps < length ps
    → first_place h ps ≡ (if (get_or ps (rank (record { key = h; place = 0 }) ps) d).key == h then Some ((get_or ps (rank (record { key = h; place = 0 }) ps) d).place) else None)
first_some h [] d within = absurd (omega arith)
first_some h (p ∷ ps) d within = by (is_before p (record { key = h; place = 0 })) within (first_some h ps d)
  where
    r : ℕ
    r = rank (record { key = h; place = 0 }) ps

    by : (b : Bool) → (if b then suc r else 0) < suc (length ps) → (r < length ps → first_place h ps ≡ (if (get_or ps r d).key == h then Some ((get_or ps r d).place) else None))
        → (if b then first_place h ps else if p.key == h then Some p.place else None)
        ≡ (if (get_or (p ∷ ps) (if b then suc r else 0) d).key == h then Some ((get_or (p ∷ ps) (if b then suc r else 0) d).place) else None)
    by true less deeper = deeper (omega arith)
    by false less deeper = refl

-- what is before the pairs of a key
starts_at : (g h a : ℕ) → (nat_lt g h || (g == h && nat_lt a 0)) ≡ nat_lt g h
starts_at g h a = grind (arith, nat_tests)

pub starts : (p : Pair) (h : ℕ) → is_before p (record { key = h; place = 0 }) ≡ nat_lt p.key h
starts p h = starts_at p.key h p.place

less_or_same : (g h : ℕ) → nat_lt g h ≡ true → (g == h) ≡ true → ⊥
less_or_same g h less same = grind (arith, nat_tests)

found_before : (g h q a b : ℕ) → a < b → (nat_lt q g || (q == g && nat_lt b a)) ≡ true → nat_lt q h ≡ false → (g == h) ≡ true → ⊥
found_before g h q a b after_it first least same = grind (arith, nat_tests)

past_it : (g h q a b : ℕ) → (nat_lt q g || (q == g && nat_lt b a)) ≡ false → nat_lt g h ≡ false → (g == h) ≡ false → (nat_lt q h ≡ false) × ((q == h) ≡ false)
past_it g h q a b first least other = (grind (arith, nat_tests), grind (arith, nat_tests))

-- all of the rows of pairs are from this index on
abbrev pub AreFrom : ℕ → List Pair → Type 0
AreFrom low [] = Unit {0}
AreFrom low (p ∷ ps) = (low ≤ p.place) × AreFrom low ps

pub from_with : (low : ℕ) (p : Pair) (ps : List Pair) → low ≤ p.place → AreFrom low ps → AreFrom low (with_pair p ps)
from_with low p [] least all = (least, tt)
from_with low p (q ∷ qs) least all = by (is_before q p) (from_with low p qs least all.1)
  where
    by : (b : Bool) → AreFrom low (with_pair p qs) → AreFrom low (if b then q ∷ with_pair p qs else p ∷ q ∷ qs)
    by true deeper = (all.0, deeper)
    by false deeper = (least, all)

pub from_less : (low high : ℕ) (ps : List Pair) → low ≤ high → AreFrom high ps → AreFrom low ps
from_less low high [] less all = tt
from_less low high (p ∷ ps) less all = (let least = all.0 in omega arith, from_less low high ps less all.1)

pub first_with : (h at g : ℕ) (ps : List Pair) → AreFrom (at + 1) ps → first_place h (with_pair (record { key = g; place = at }) ps) ≡ (if g == h then Some at else first_place h ps)
first_with h at g [] all = rw (starts (record { key = g; place = at }) h) (by (nat_lt g h) (g == h) refl refl)
  where
    by : (e f : Bool) → nat_lt g h ≡ e → (g == h) ≡ f → (if e then None else if f then Some at else None) ≡ (if f then Some at else None)
    by true true e f = absurd (less_or_same g h e f)
    by true false e f = refl
    by false f e is = refl
first_with h at g (q ∷ qs) all =
    by (is_before q (record { key = g; place = at })) (is_before q (record { key = h; place = 0 })) (g == h) refl refl refl (first_with h at g qs all.1)
  where
    p : Pair
    p = record { key = g; place = at }

    here : Option ℕ
    here = if q.key == h then Some q.place else None

    later : (e f : Bool) → nat_lt g h ≡ e → (g == h) ≡ f → is_before q p ≡ false
        → (if e then first_place h (q ∷ qs) else if f then Some at else None) ≡ (if f then Some at else first_place h (q ∷ qs))
    later true true e f first = absurd (less_or_same g h e f)
    later true false e f first = refl
    later false true e f first = refl
    later false false e f first =
        let none = past_it g h q.key at q.place first e f in
        let least : is_before q (record { key = h; place = 0 }) ≡ false = starts q h ∙ none.0 in
        rw (least, none.1) refl

    by : (b c f : Bool) → is_before q p ≡ b → is_before q (record { key = h; place = 0 }) ≡ c → (g == h) ≡ f
        → first_place h (with_pair p qs) ≡ (if f then Some at else first_place h qs)
        → first_place h (if b then q ∷ with_pair p qs else p ∷ q ∷ qs) ≡ (if f then Some at else if c then first_place h qs else here)
    by true true f first least same deeper = rw least deeper
    by true false true first least same deeper = absurd (found_before g h q.key at q.place (let low = all.0 in omega arith) first (sym (starts q h) ∙ least) same)
    by true false false first least same deeper = rw least refl
    by false c f first least same deeper =
        rw (starts p h) (later (nat_lt g h) (g == h) refl refl first ∙ ap (λ (t : Bool). if t then Some at else first_place h (q ∷ qs)) same
        ∙ ap (λ (t : Bool). if f then Some at else if t then first_place h qs else here) least)

-- all of them are before this one
abbrev pub AreBelow : ℕ → List Pair → Type 0
AreBelow high [] = Unit {0}
AreBelow high (p ∷ ps) = (p.place < high) × AreBelow high ps

pub below_with : (high : ℕ) (p : Pair) (ps : List Pair) → p.place < high → AreBelow high ps → AreBelow high (with_pair p ps)
below_with high p [] least all = (least, tt)
below_with high p (q ∷ qs) least all = by (is_before q p) (below_with high p qs least all.1)
  where
    by : (b : Bool) → AreBelow high (with_pair p qs) → AreBelow high (if b then q ∷ with_pair p qs else p ∷ q ∷ qs)
    by true deeper = (all.0, deeper)
    by false deeper = (least, all)

pub below_at : (high : ℕ) (ps : List Pair) (k : ℕ) (d : Pair) → AreBelow high ps → k < length ps → (get_or ps k d).place < high
below_at high [] k d all within = absurd (omega arith)
below_at high (p ∷ ps) zero d all within = all.0
below_at high (p ∷ ps) (suc k) d all within = below_at high ps k d all.1 (omega arith)

-- those of rows before an index don't move
pub unmoved : (k : ℕ) (ps : List Pair) → ((i : ℕ) (d : Pair) → i < length ps → (get_or ps i d).place < k) → map (pushed_back k) ps ≡ ps
unmoved k [] low = refl
unmoved k (p ∷ ps) low =
    ap (λ (q : Pair). q ∷ map (pushed_back k) ps) (before k p.place p.key (low 0 p (omega arith)))
    ∙ ap (λ (qs : List Pair). p ∷ qs) (unmoved k ps (λ i d inside. low (suc i) d (omega arith)))

-- where a pair is read at its rank
pub first_at : (h : ℕ) (ps : List Pair) (i : ℕ) (p : Pair) → i ≡ rank (record { key = h; place = 0 }) ps → i < length ps → p ≡ get_or ps i p → first_place h ps ≡ (if p.key == h then Some p.place else None)
first_at h ps i p is within read =
    let at : get_or ps (rank (record { key = h; place = 0 }) ps) p ≡ p = ap (λ (k : ℕ). get_or ps k p) (sym is) ∙ sym read in
    first_some h ps p (omega arith) ∙ ap (λ (q : Pair). if q.key == h then Some q.place else None) at

-- where a pair is put in
pub put_in : (g : Option ℕ) (a k i : ℕ) (ps new : List Pair) → g ≡ Some k → i ≡ rank (record { key = k; place = a }) ps → new ≡ insert ps i (record { key = k; place = a }) → new ≡ with_key g a ps
put_in g a k i ps new some is now =
    rw some (now ∙ ap (λ (at : ℕ). insert ps at (record { key = k; place = a })) is ∙ insert_is (record { key = k; place = a }) ps)

-- one less than their number
pub room_for : (g : Option ℕ) (a k : ℕ) (ps : List Pair) (room : ℕ) → g ≡ Some k → length (with_key g a ps) ≤ room → length ps < room
room_for g a k ps room some few = let one = length-with (record { key = k; place = a }) ps in let n : length (with_key g a ps) ≡ suc (length ps) = rw some one in omega arith

pub order_pushed_from : (k : ℕ) (ps : List Pair) → AreInOrder ps → AreInOrder (map (pushed_back k) ps)
order_pushed_from k [] order = tt
order_pushed_from k (p ∷ ps) order = (none ps order.0, order_pushed_from k ps order.1)
  where
    none : (qs : List Pair) → NoneBefore p qs → NoneBefore (pushed_back k p) (map (pushed_back k) qs)
    none [] all = tt
    none (q ∷ qs) all = (same_order k q p ∙ all.0, none qs all.1)
