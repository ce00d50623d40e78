-- Types of rows, and the runs that stand for them.
use Rattle.std.proofs.Common.{◌≡◌, refl, sym, ap, ◌∙◌, arith, ℕ, zero, suc, ◌+◌, ◌-◌, ◌<◌, ◌≤◌, List, [], ◌∷◌, ◌++◌, length, get_or, take, drop, set, remove, replicate, slice_get, Bool, true, false, not, ◌||◌, ◌&&◌, Some, bytes_eq, ◌⊎◌, inl, inr, if◌then◌else◌, append_assoc}
use Rattle.std.proofs.lemmas.Bool.{cases_lt}
use Rattle.std.proofs.lemmas.List.{append-nil, get_or_default, take_all}
use Rattle.std.specs.Prelude.{nat_lt}
use Rattle.std.proofs.lemmas.Bool.Decides.{nat_tests}
use Rattle.std.proofs.lemmas.Slice.Eq.{bytes_eq-Decides}
use Rattle.fork_bytes.specs.declared.layout.TypeCount.{TypeCount}
use Rattle.res_table.specs.Kinds.{is_run_of, expanded, has_kind, count_of, places_of, end_of, with_kind}

-- a run of a type before others
pub count_run : (kind k : List ℕ) (n : ℕ) (ks : List (List ℕ)) → count_of kind (replicate n k ++ ks) ≡ (if bytes_eq k kind then n else 0) + count_of kind ks
count_run kind k zero ks = by (bytes_eq k kind)
  where
    by : (b : Bool) → count_of kind ks ≡ (if b then 0 else 0) + count_of kind ks
    by true = omega arith
    by false = omega arith
count_run kind k (suc n) ks = by (bytes_eq k kind) (count_run kind k n ks)
  where
    by : (b : Bool) → count_of kind (replicate n k ++ ks) ≡ (if b then n else 0) + count_of kind ks
        → (if b then count_of kind (replicate n k ++ ks) + 1 else count_of kind (replicate n k ++ ks)) ≡ (if b then suc n else 0) + count_of kind ks
    by true deeper = omega arith
    by false deeper = omega arith

pub count_few : (kind : List ℕ) (ks : List (List ℕ)) → count_of kind ks ≤ length ks
count_few kind [] = omega arith
count_few kind (k ∷ ks) = by (bytes_eq k kind) (count_few kind ks)
  where
    by : (b : Bool) → count_of kind ks ≤ length ks → (if b then count_of kind ks + 1 else count_of kind ks) ≤ suc (length ks)
    by true deeper = omega arith
    by false deeper = omega arith

pub end_other : (kind k : List ℕ) (end at n : ℕ) (ks : List (List ℕ)) → bytes_eq k kind ≡ false → end_of kind end at (replicate n k ++ ks) ≡ end_of kind end (at + n) ks
end_other kind k end at zero ks is = let e : at + 0 ≡ at = omega arith in ap (λ (a : ℕ). end_of kind end a ks) (sym e)
end_other kind k end at (suc n) ks is = let e : at + 1 + n ≡ at + suc n = omega arith in ap (λ (b : Bool). end_of kind (if b then at + 1 else end) (at + 1) (replicate n k ++ ks)) is ∙ (end_other kind k end (at + 1) n ks is ∙ ap (λ (a : ℕ). end_of kind end a ks) e)

pub end_here : (kind k : List ℕ) (end at n : ℕ) (ks : List (List ℕ)) → bytes_eq k kind ≡ true → 0 < n → end_of kind end at (replicate n k ++ ks) ≡ end_of kind (at + n) (at + n) ks
end_here kind k end at zero ks is some = absurd (omega arith)
end_here kind k end at (suc zero) ks is some = rw is refl
end_here kind k end at (suc (suc n)) ks is some =
    let e : at + 1 + suc n ≡ at + suc (suc n) = omega arith in
    ap (λ (b : Bool). end_of kind (if b then at + 1 else end) (at + 1) (replicate (suc n) k ++ ks)) is
    ∙ end_here kind k (at + 1) (at + 1) (suc n) ks is (omega arith) ∙ ap (λ (a : ℕ). end_of kind a a ks) e

pub end_none : (kind k : List ℕ) (end at n : ℕ) (ks : List (List ℕ)) → n ≡ 0 → end_of kind end at (replicate n k ++ ks) ≡ end_of kind end (at + n) ks
end_none kind k end at n ks is = rw is (let e : at + 0 ≡ at = omega arith in ap (λ (a : ℕ). end_of kind end a ks) (sym e))

pub place_here : (kind k : List ℕ) (at n left : ℕ) (ks : List (List ℕ)) → bytes_eq k kind ≡ true → left < n → slice_get (places_of at kind (replicate n k ++ ks)) left ≡ Some (at + left)
place_here kind k at zero left ks is less = absurd (omega arith)
place_here kind k at (suc n) zero ks is less = rw is (let e : at + 0 ≡ at = omega arith in ap Some (sym e))
place_here kind k at (suc n) (suc left) ks is less = rw is (place_here kind k (at + 1) n left ks is (omega arith) ∙ (let e : at + 1 + left ≡ at + suc left = omega arith in ap Some e))

pub place_after : (kind k : List ℕ) (at n left : ℕ) (ks : List (List ℕ)) → bytes_eq k kind ≡ true → n ≤ left → slice_get (places_of at kind (replicate n k ++ ks)) left ≡ slice_get (places_of (at + n) kind ks) (left - n)
place_after kind k at zero left ks is least = let e : at + 0 ≡ at = omega arith in let f : left - 0 ≡ left = omega arith in rw (e, f) refl
place_after kind k at (suc n) zero ks is least = absurd (omega arith)
place_after kind k at (suc n) (suc left) ks is least =
    let e : at + 1 + n ≡ at + suc n = omega arith in let f : suc left - suc n ≡ left - n = omega arith in
    rw (is, f) (place_after kind k (at + 1) n left ks is (omega arith) ∙ ap (λ (a : ℕ). slice_get (places_of a kind ks) (left - n)) e)

pub place_other : (kind k : List ℕ) (at n : ℕ) (ks : List (List ℕ)) → bytes_eq k kind ≡ false → places_of at kind (replicate n k ++ ks) ≡ places_of (at + n) kind ks
place_other kind k at zero ks is = let e : at + 0 ≡ at = omega arith in ap (λ (a : ℕ). places_of a kind ks) (sym e)
place_other kind k at (suc n) ks is = let e : at + 1 + n ≡ at + suc n = omega arith in rw is (place_other kind k (at + 1) n ks is ∙ ap (λ (a : ℕ). places_of a kind ks) e)

pub long_run : (k : List ℕ) (n : ℕ) (ks : List (List ℕ)) → length (replicate n k ++ ks) ≡ n + length ks
long_run k zero ks = omega arith
long_run k (suc n) ks = let deeper = long_run k n ks in omega arith

-- runs before one, it, and those after
pub run_at : (runs : List TypeCount) (i : ℕ) (d : TypeCount) → i < length runs → expanded (drop i runs) ≡ replicate (get_or runs i d).count (get_or runs i d).kind ++ expanded (drop (suc i) runs)
run_at [] i d within = absurd (omega arith)
run_at (run ∷ runs) zero d within = refl
run_at (run ∷ runs) (suc i) d within = run_at runs i d (omega arith)

pub runs_split : (runs : List TypeCount) (i : ℕ) (d : TypeCount) → i < length runs
    → expanded runs ≡ expanded (take i runs) ++ (replicate (get_or runs i d).count (get_or runs i d).kind ++ expanded (drop (suc i) runs))
runs_split [] i d within = absurd (omega arith)
runs_split (run ∷ runs) zero d within = refl
runs_split (run ∷ runs) (suc i) d within =
    ap (λ (ks : List (List ℕ)). replicate run.count run.kind ++ ks) (runs_split runs i d (omega arith))
    ∙ sym (append_assoc (replicate run.count run.kind) (expanded (take i runs)) (replicate (get_or runs i d).count (get_or runs i d).kind ++ expanded (drop (suc i) runs)))

pub runs_set : (runs : List TypeCount) (i : ℕ) (new : TypeCount) → i < length runs → expanded (set runs i new) ≡ expanded (take i runs) ++ (replicate new.count new.kind ++ expanded (drop (suc i) runs))
runs_set [] i new within = absurd (omega arith)
runs_set (run ∷ runs) zero new within = refl
runs_set (run ∷ runs) (suc i) new within =
    ap (λ (ks : List (List ℕ)). replicate run.count run.kind ++ ks) (runs_set runs i new (omega arith))
    ∙ sym (append_assoc (replicate run.count run.kind) (expanded (take i runs)) (replicate new.count new.kind ++ expanded (drop (suc i) runs)))

pub runs_removed : (runs : List TypeCount) (i : ℕ) → i < length runs → expanded (remove runs i) ≡ expanded (take i runs) ++ expanded (drop (suc i) runs)
runs_removed [] i within = absurd (omega arith)
runs_removed (run ∷ runs) zero within = refl
runs_removed (run ∷ runs) (suc i) within =
    ap (λ (ks : List (List ℕ)). replicate run.count run.kind ++ ks) (runs_removed runs i (omega arith))
    ∙ sym (append_assoc (replicate run.count run.kind) (expanded (take i runs)) (expanded (drop (suc i) runs)))

pub runs_more : (runs : List TypeCount) (run : TypeCount) → expanded (runs ++ run ∷ []) ≡ expanded runs ++ replicate run.count run.kind
runs_more [] run = append-nil (replicate run.count run.kind)
runs_more (first ∷ runs) run = ap (λ (ks : List (List ℕ)). replicate first.count first.kind ++ ks) (runs_more runs run) ∙ sym (append_assoc (replicate first.count first.kind) (expanded runs) (replicate run.count run.kind))

-- one of a run is taken out
pub run_less : (k : List ℕ) (before : List (List ℕ)) (n place left : ℕ) (after : List (List ℕ)) → place ≡ length before + left → left < n
    → remove (before ++ (replicate n k ++ after)) place ≡ before ++ (replicate (n - 1) k ++ after)
run_less k [] zero place left after is less = absurd (omega arith)
run_less k [] (suc n) place zero after is less = let e : place ≡ 0 = omega arith in let f : suc n - 1 ≡ n = omega arith in rw (e, f) refl
run_less k [] (suc zero) place (suc left) after is less = absurd (omega arith)
run_less k [] (suc (suc n)) place (suc left) after is less =
    let e : place ≡ suc left = omega arith in let f : suc (suc n) - 1 ≡ suc n = omega arith in let h : suc n - 1 ≡ n = omega arith in
    rw (e, f) (ap (λ (ks : List (List ℕ)). k ∷ ks) (run_less k [] (suc n) left left after (omega arith) (omega arith) ∙ ap (λ (m : ℕ). replicate m k ++ after) h))
run_less k (b ∷ bs) n place left after is less =
    let e : place ≡ suc (length bs + left) = omega arith in
    rw e (ap (λ (ks : List (List ℕ)). b ∷ ks) (run_less k bs n (length bs + left) left after refl less))

-- one more of a run, after the last of the type
any_within : (kind k : List ℕ) (before : List (List ℕ)) (n : ℕ) (after : List (List ℕ)) → bytes_eq k kind ≡ true → 0 < n → has_kind kind (before ++ (replicate n k ++ after)) ≡ true
any_within kind k [] zero after is some = absurd (omega arith)
any_within kind k [] (suc n) after is some = rw is refl
any_within kind k (b ∷ bs) n after is some = rw (any_within kind k bs n after is some) (by (bytes_eq b kind))
  where
    by : (c : Bool) → (c || true) ≡ true
    by true = refl
    by false = refl

pub run_longer : (kind k : List ℕ) (before : List (List ℕ)) (n : ℕ) (after : List (List ℕ)) → bytes_eq k kind ≡ true → 0 < n → has_kind kind after ≡ false
    → with_kind kind (before ++ (replicate n k ++ after)) ≡ before ++ (replicate (n + 1) k ++ after)
run_longer kind k [] zero after is some none = absurd (omega arith)
run_longer kind k [] (suc zero) after is some none = rw (is, none) (ap (λ (j : List ℕ). k ∷ j ∷ after) (sym ((bytes_eq-Decides k kind).0 is)))
run_longer kind k [] (suc (suc n)) after is some none =
    let any : has_kind kind (replicate (suc n) k ++ after) ≡ true = any_within kind k [] (suc n) after is (omega arith) in
    let e : suc (suc n) + 1 ≡ suc (suc n + 1) = omega arith in
    ap (λ (b : Bool). if bytes_eq k kind && not b then k ∷ kind ∷ (replicate (suc n) k ++ after) else k ∷ with_kind kind (replicate (suc n) k ++ after)) any
    ∙ by (bytes_eq k kind)
    ∙ ap (λ (ks : List (List ℕ)). k ∷ ks) (run_longer kind k [] (suc n) after is (omega arith) none)
    ∙ ap (λ (m : ℕ). replicate m k ++ after) (sym e)
  where
    by : (b : Bool) → (if b && not true then k ∷ kind ∷ (replicate (suc n) k ++ after) else k ∷ with_kind kind (replicate (suc n) k ++ after)) ≡ k ∷ with_kind kind (replicate (suc n) k ++ after)
    by true = refl
    by false = refl
run_longer kind k (b ∷ bs) n after is some none =
    ap (λ (c : Bool). if bytes_eq b kind && not c then b ∷ kind ∷ (bs ++ (replicate n k ++ after)) else b ∷ with_kind kind (bs ++ (replicate n k ++ after))) (any_within kind k bs n after is some)
    ∙ by (bytes_eq b kind)
    ∙ ap (λ (ks : List (List ℕ)). b ∷ ks) (run_longer kind k bs n after is some none)
  where
    by : (c : Bool) → (if c && not true then b ∷ kind ∷ (bs ++ (replicate n k ++ after)) else b ∷ with_kind kind (bs ++ (replicate n k ++ after))) ≡ b ∷ with_kind kind (bs ++ (replicate n k ++ after))
    by true = refl
    by false = refl

pub kind_last : (kind : List ℕ) (ks : List (List ℕ)) → has_kind kind ks ≡ false → with_kind kind ks ≡ ks ++ kind ∷ []
kind_last kind [] none = refl
kind_last kind (k ∷ ks) none = by (bytes_eq k kind) none (kind_last kind ks)
  where
    by : (b : Bool) → (b || has_kind kind ks) ≡ false → (has_kind kind ks ≡ false → with_kind kind ks ≡ ks ++ kind ∷ []) → (if b && not (has_kind kind ks) then k ∷ kind ∷ ks else k ∷ with_kind kind ks) ≡ k ∷ (ks ++ kind ∷ [])
    by true is deeper = absurd (cc is)
    by false is deeper = ap (λ (js : List (List ℕ)). k ∷ js) (deeper is)

-- no run of the type from here on
pub none_run : (kind k : List ℕ) (n : ℕ) (after : List (List ℕ)) → bytes_eq k kind ≡ false → has_kind kind after ≡ false → has_kind kind (replicate n k ++ after) ≡ false
none_run kind k zero after is none = none
none_run kind k (suc n) after is none = rw is (none_run kind k n after is none)

-- a run of one
pub one_more : (k : List ℕ) (n : ℕ) → replicate (n + 1) k ≡ replicate n k ++ k ∷ []
one_more k zero = refl
one_more k (suc n) = let e : suc n + 1 ≡ suc (n + 1) = omega arith in rw e (ap (λ (ks : List (List ℕ)). k ∷ ks) (one_more k n))

-- runs that have rows of a type, and others
some_of : (kind : List ℕ) (run : TypeCount) → is_run_of kind run ≡ true → (bytes_eq run.kind kind ≡ true) × (0 < run.count)
some_of kind run is = by (bytes_eq run.kind kind) refl is
  where
    positive : (n : ℕ) → nat_lt 0 n ≡ true → 0 < n
    positive n some = grind (arith, nat_tests)

    by : (b : Bool) → bytes_eq run.kind kind ≡ b → (b && nat_lt 0 run.count) ≡ true → (bytes_eq run.kind kind ≡ true) × (0 < run.count)
    by true e both = (e, positive run.count both)
    by false e both = absurd (cc both)

none_of : (kind : List ℕ) (run : TypeCount) → is_run_of kind run ≡ false → (bytes_eq run.kind kind ≡ false) ⊎ (run.count ≡ 0)
none_of kind run is = by (bytes_eq run.kind kind) refl is
  where
    empty : (n : ℕ) → nat_lt 0 n ≡ false → n ≡ 0
    empty n none = grind (arith, nat_tests)

    by : (b : Bool) → bytes_eq run.kind kind ≡ b → (b && nat_lt 0 run.count) ≡ false → (bytes_eq run.kind kind ≡ false) ⊎ (run.count ≡ 0)
    by true e other = inr (empty run.count other)
    by false e other = inl e

pub end_some : (kind : List ℕ) (run : TypeCount) (end at : ℕ) (ks : List (List ℕ)) → is_run_of kind run ≡ true → end_of kind end at (replicate run.count run.kind ++ ks) ≡ end_of kind (at + run.count) (at + run.count) ks
end_some kind run end at ks is = let both = some_of kind run is in end_here kind run.kind end at run.count ks both.0 both.1

pub end_not : (kind : List ℕ) (run : TypeCount) (end at : ℕ) (ks : List (List ℕ)) → is_run_of kind run ≡ false → end_of kind end at (replicate run.count run.kind ++ ks) ≡ end_of kind end (at + run.count) ks
end_not kind run end at ks is = elim (none_of kind run is) [
  | inl other ↦ end_other kind run.kind end at run.count ks other
  | inr none ↦ end_none kind run.kind end at run.count ks none
]

pub place_some : (kind : List ℕ) (run : TypeCount) (at left : ℕ) (ks : List (List ℕ)) → is_run_of kind run ≡ true → left < run.count → slice_get (places_of at kind (replicate run.count run.kind ++ ks)) left ≡ Some (at + left)
place_some kind run at left ks is less = place_here kind run.kind at run.count left ks (some_of kind run is).0 less

pub place_past : (kind : List ℕ) (run : TypeCount) (at left : ℕ) (ks : List (List ℕ)) → is_run_of kind run ≡ true → run.count ≤ left
    → slice_get (places_of at kind (replicate run.count run.kind ++ ks)) left ≡ slice_get (places_of (at + run.count) kind ks) (left - run.count)
place_past kind run at left ks is least = place_after kind run.kind at run.count left ks (some_of kind run is).0 least

pub place_not : (kind : List ℕ) (run : TypeCount) (at : ℕ) (ks : List (List ℕ)) → is_run_of kind run ≡ false → places_of at kind (replicate run.count run.kind ++ ks) ≡ places_of (at + run.count) kind ks
place_not kind run at ks is = elim (none_of kind run is) [
  | inl other ↦ place_other kind run.kind at run.count ks other
  | inr none ↦ ap (λ (n : ℕ). places_of at kind (replicate n run.kind ++ ks)) none ∙ (let e : at ≡ at + run.count = omega arith in ap (λ (a : ℕ). places_of a kind ks) e)
]

pub none_not : (kind : List ℕ) (run : TypeCount) (ks : List (List ℕ)) → is_run_of kind run ≡ false → has_kind kind ks ≡ false → has_kind kind (replicate run.count run.kind ++ ks) ≡ false
none_not kind run ks is none = elim (none_of kind run is) [
  | inl other ↦ none_run kind run.kind run.count ks other none
  | inr empty ↦ ap (λ (n : ℕ). has_kind kind (replicate n run.kind ++ ks)) empty ∙ none
]

-- the runs from one on
pub at_run : (runs : List TypeCount) (i : ℕ) (run : TypeCount) → i < length runs → run ≡ get_or runs i run → expanded (drop i runs) ≡ replicate run.count run.kind ++ expanded (drop (i + 1) runs)
at_run runs i run within is =
    let e : suc i ≡ i + 1 = omega arith in
    run_at runs i run within ∙ ap (λ (r : TypeCount). replicate r.count r.kind ++ expanded (drop (suc i) runs)) (sym is) ∙ ap (λ (n : ℕ). replicate run.count run.kind ++ expanded (drop n runs)) e

pub count_step : (kind : List ℕ) (runs : List TypeCount) (i : ℕ) (run : TypeCount) → i < length runs → run ≡ get_or runs i run
    → count_of kind (expanded (drop i runs)) ≡ (if bytes_eq run.kind kind then run.count else 0) + count_of kind (expanded (drop (i + 1) runs))
count_step kind runs i run within is = ap (count_of kind) (at_run runs i run within is) ∙ count_run kind run.kind run.count (expanded (drop (i + 1) runs))

pub long_step : (runs : List TypeCount) (i : ℕ) (run : TypeCount) → i < length runs → run ≡ get_or runs i run → length (expanded (drop i runs)) ≡ run.count + length (expanded (drop (i + 1) runs))
long_step runs i run within is = ap (λ (ks : List (List ℕ)). length ks) (at_run runs i run within is) ∙ long_run run.kind run.count (expanded (drop (i + 1) runs))

-- the runs up to one
long_taken : (runs : List TypeCount) (i : ℕ) (d : TypeCount) → i < length runs → length (expanded (take (suc i) runs)) ≡ length (expanded (take i runs)) + (get_or runs i d).count
long_taken [] i d within = absurd (omega arith)
long_taken (run ∷ runs) zero d within = long_run run.kind run.count [] ∙ omega arith
long_taken (run ∷ runs) (suc i) d within =
    let deeper = long_taken runs i d (omega arith) in
    let one = long_run run.kind run.count (expanded (take (suc i) runs)) in let other = long_run run.kind run.count (expanded (take i runs)) in omega arith

pub long_take : (runs : List TypeCount) (i : ℕ) (run : TypeCount) → i < length runs → run ≡ get_or runs i run → length (expanded (take (i + 1) runs)) ≡ length (expanded (take i runs)) + run.count
long_take runs i run within is =
    let e : i + 1 ≡ suc i = omega arith in
    ap (λ (n : ℕ). length (expanded (take n runs))) e ∙ long_taken runs i run within ∙ ap (λ (r : TypeCount). length (expanded (take i runs)) + r.count) (sym is)

pub run_few : (runs : List TypeCount) (i : ℕ) (run : TypeCount) → i < length runs → run ≡ get_or runs i run → run.count ≤ length (expanded runs)
run_few [] i run within is = absurd (omega arith)
run_few (first ∷ runs) zero run within is = let same = ap (λ (r : TypeCount). r.count) is in let long = long_run first.kind first.count (expanded runs) in omega arith
run_few (first ∷ runs) (suc i) run within is = let deeper = run_few runs i run (omega arith) is in let long = long_run first.kind first.count (expanded runs) in omega arith

split_at : (runs : List TypeCount) (i : ℕ) (run : TypeCount) → i < length runs → run ≡ get_or runs i run → expanded runs ≡ expanded (take i runs) ++ (replicate run.count run.kind ++ expanded (drop (suc i) runs))
split_at runs i run within is = runs_split runs i run within ∙ ap (λ (r : TypeCount). expanded (take i runs) ++ (replicate r.count r.kind ++ expanded (drop (suc i) runs))) (sym is)

-- a row of a type more, in the last run of it
pub run_added : (kind : List ℕ) (runs : List TypeCount) (i : ℕ) (run d : TypeCount) → i < length runs → run ≡ get_or runs i run → is_run_of kind (get_or runs i d) ≡ true
    → has_kind kind (expanded (drop (i + 1) runs)) ≡ false → expanded (set runs i (record { kind = kind; count = run.count + 1 })) ≡ with_kind kind (expanded runs)
run_added kind runs i run d within is some none =
    let e : i + 1 ≡ suc i = omega arith in
    let mine = some_of kind run (ap (is_run_of kind) (is ∙ get_or_default runs i run d within) ∙ some) in
    runs_set runs i (record { kind = kind; count = run.count + 1 }) within
    ∙ ap (λ (k : List ℕ). expanded (take i runs) ++ (replicate (run.count + 1) k ++ expanded (drop (suc i) runs))) (sym ((bytes_eq-Decides run.kind kind).0 mine.0))
    ∙ sym (run_longer kind run.kind (expanded (take i runs)) run.count (expanded (drop (suc i) runs)) mine.0 mine.1 (ap (λ (n : ℕ). has_kind kind (expanded (drop n runs))) (sym e) ∙ none))
    ∙ sym (ap (with_kind kind) (split_at runs i run within is))

-- a row more, in the last run of all
pub run_pushed : (kind : List ℕ) (runs : List TypeCount) (i : ℕ) (run : TypeCount) → length runs ≡ i + 1 → run ≡ get_or runs i run → bytes_eq run.kind kind ≡ true
    → expanded (set runs i (record { kind = kind; count = run.count + 1 })) ≡ expanded runs ++ kind ∷ []
run_pushed kind [] i run long is same = absurd (omega arith)
run_pushed kind (first ∷ []) zero run long is same =
    let k : run.kind ≡ kind = (bytes_eq-Decides run.kind kind).0 same in
    append-nil (replicate (run.count + 1) kind) ∙ one_more kind run.count
    ∙ ap (λ (ks : List (List ℕ)). ks ++ kind ∷ []) (ap (replicate run.count) (sym k) ∙ ap (λ (r : TypeCount). replicate r.count r.kind) is ∙ sym (append-nil (replicate first.count first.kind)))
run_pushed kind (first ∷ next ∷ runs) zero run long is same = absurd (omega arith)
run_pushed kind (first ∷ runs) (suc i) run long is same =
    ap (λ (ks : List (List ℕ)). replicate first.count first.kind ++ ks) (run_pushed kind runs i run (omega arith) is same)
    ∙ sym (append_assoc (replicate first.count first.kind) (expanded runs) (kind ∷ []))

-- a row less
left_in : (runs : List TypeCount) (i place : ℕ) (run : TypeCount) → i < length runs → run ≡ get_or runs i run → length (expanded (take i runs)) ≤ place → place < length (expanded (take (i + 1) runs))
    → remove (expanded runs) place ≡ expanded (take i runs) ++ (replicate (run.count - 1) run.kind ++ expanded (drop (suc i) runs))
left_in runs i place run within is start end =
    let long = long_take runs i run within is in
    ap (λ (ks : List (List ℕ)). remove ks place) (split_at runs i run within is)
    ∙ run_less run.kind (expanded (take i runs)) run.count place (place - length (expanded (take i runs))) (expanded (drop (suc i) runs)) (omega arith) (omega arith)

pub some_left : (runs : List TypeCount) (i place : ℕ) (run : TypeCount) → i < length runs → run ≡ get_or runs i run → length (expanded (take i runs)) ≤ place → place < length (expanded (take (i + 1) runs)) → 1 ≤ run.count
some_left runs i place run within is start end = let long = long_take runs i run within is in omega arith

pub run_taken : (runs : List TypeCount) (i place : ℕ) (run : TypeCount) → i < length runs → run ≡ get_or runs i run → length (expanded (take i runs)) ≤ place → place < length (expanded (take (i + 1) runs))
    → run.count ≡ 1 → expanded (remove runs i) ≡ remove (expanded runs) place
run_taken runs i place run within is start end one =
    runs_removed runs i within ∙ ap (λ (n : ℕ). expanded (take i runs) ++ (replicate (n - 1) run.kind ++ expanded (drop (suc i) runs))) (sym one) ∙ sym (left_in runs i place run within is start end)

pub run_shorter : (runs : List TypeCount) (i place : ℕ) (run : TypeCount) → i < length runs → run ≡ get_or runs i run → length (expanded (take i runs)) ≤ place → place < length (expanded (take (i + 1) runs))
    → expanded (set runs i (record { kind = run.kind; count = run.count - 1 })) ≡ remove (expanded runs) place
run_shorter runs i place run within is start end = runs_set runs i (record { kind = run.kind; count = run.count - 1 }) within ∙ sym (left_in runs i place run within is start end)

-- fewer runs than all come before a row that is there
pub run_inside : (runs : List TypeCount) (i left place : ℕ) → place ≡ length (expanded (take i runs)) + left → place < length (expanded runs) → i < length runs
run_inside runs i left place all some = elim (cases_lt i (length runs)) [
  | inl inside ↦ inside
  | inr past ↦ let whole = ap (λ (rs : List TypeCount). length (expanded rs)) (take_all i runs past) in absurd (omega (arith, all, some, whole))
]
