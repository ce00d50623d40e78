-- Keys that pairs have, and the first that none has.
use Rattle.std.proofs.Common.{◌≡◌, refl, sym, ap, ◌∙◌, subst, arith, ℕ, ◌+◌, ◌-◌, ◌<◌, ◌≤◌, List, length, get_or, take, drop, Bool, true, false, ◌||◌, ◌==◌}
use Rattle.std.proofs.lemmas.Bool.Decides.{nat_tests}
use Rattle.std.proofs.lemmas.List.{drop_all, drop_more, length-drop, take_all}
use Rattle.std.proofs.lemmas.Bool.{eq-eqb}
use Rattle.res_table.specs.declared.keyed.Pair.{Pair}
use Rattle.res_table.specs.Keyed.{rank, has_pair, NoneBefore, AreInOrder}
use Rattle.res_table.proofs.Pairs.{order_dropped}
use Rattle.res_table.proofs.AnyPair.{below, above, any_from, none_after}

-- no pair before the first one of a key has it, or a larger one
after_rank : (h k : ℕ) (ps : List Pair) → h ≤ k → has_pair k ps ≡ has_pair k (drop (rank (record { key = h; place = 0 }) ps) ps)
after_rank h k ps least = any_from (λ p. p.key == k) h ps (λ p less. below p.key k (omega arith))

-- nor does one after a pair with a larger one
none_has : (p : Pair) (ps : List Pair) (k : ℕ) → NoneBefore p ps → k < p.key → has_pair k ps ≡ false
none_has p ps k none less = none_after (λ q. q.key == k) p ps none (λ q least. above q.key k (omega arith))

-- pairs have the keys up to this one, and from it on those that are left decide
abbrev pub AreTaken : ℕ → ℕ → List Pair → List Pair → Type 0
AreTaken key free ps rest = ((k : ℕ) → key ≤ k → k < free → has_pair k ps ≡ true) × ((k : ℕ) → free ≤ k → has_pair k ps ≡ has_pair k rest)

pub taken_first : (h start : ℕ) (ps rest : List Pair) → start ≡ rank (record { key = h; place = 0 }) ps → rest ≡ drop start ps → AreTaken h h ps rest
taken_first h start ps rest is left =
    (λ k least less. absurd (omega arith), λ k least. after_rank h k ps least ∙ ap (λ (n : ℕ). has_pair k (drop n ps)) (sym is) ∙ ap (has_pair k) (sym left))

-- one more pair is looked at
looked_at : (i k : ℕ) (d : Pair) (rest : List Pair) → i < length rest → has_pair k (drop i rest) ≡ (((get_or rest i d).key == k) || has_pair k (drop (i + 1) rest))
looked_at i k d rest within = ap (has_pair k) (drop_more rest i d within)

-- it has a smaller key
pub taken_same : (key free i : ℕ) (d : Pair) (ps rest : List Pair) → i < length rest → (get_or rest i d).key < free → AreTaken key free ps (drop i rest) → AreTaken key free ps (drop (i + 1) rest)
taken_same key free i d ps rest within less before =
    (before.0, λ k least. before.1 k least ∙ looked_at i k d rest within ∙ ap (λ (t : Bool). t || has_pair k (drop (i + 1) rest)) (below (get_or rest i d).key k (omega arith)))

-- or the next one
pub taken_more : (key free i : ℕ) (d : Pair) (ps rest : List Pair) → i < length rest → (get_or rest i d).key ≡ free → AreTaken key free ps (drop i rest) → AreTaken key (free + 1) ps (drop (i + 1) rest)
taken_more key free i d ps rest within same before =
    (λ k least less. by k least (k == free) refl less, λ k least. before.1 k (omega arith) ∙ looked_at i k d rest within ∙ ap (λ (t : Bool). t || has_pair k (drop (i + 1) rest)) (below (get_or rest i d).key k (omega arith)))
  where
    here : has_pair free ps ≡ true
    here = before.1 free (omega arith) ∙ looked_at i free d rest within ∙ ap (λ (t : Bool). t || has_pair free (drop (i + 1) rest)) (eq-eqb (get_or rest i d).key free same)

    last : (k : ℕ) → (k == free) ≡ true → k ≡ free
    last k e = grind (arith, nat_tests)

    other : (k : ℕ) → (k == free) ≡ false → k < free + 1 → k < free
    other k e less = grind (arith, nat_tests)

    by : (k : ℕ) → key ≤ k → (b : Bool) → (k == free) ≡ b → k < free + 1 → has_pair k ps ≡ true
    by k least true e less = ap (λ (n : ℕ). has_pair n ps) (last k e) ∙ here
    by k least false e less = before.0 k least (other k e less)

-- or a larger one, as all that are left
pub free_before : (key free i : ℕ) (d : Pair) (ps rest : List Pair) → i < length rest → AreInOrder rest → free < (get_or rest i d).key → AreTaken key free ps (drop i rest) → has_pair free ps ≡ false
free_before key free i d ps rest within order less before =
    let after = subst AreInOrder (drop_more rest i d within) (order_dropped rest i order) in
    before.1 free (omega arith) ∙ looked_at i free d rest within ∙ ap (λ (t : Bool). t || has_pair free (drop (i + 1) rest)) (above (get_or rest i d).key free less)
    ∙ none_has (get_or rest i d) (drop (i + 1) rest) free after.0 less

-- or there is none
pub free_last : (key free i : ℕ) (ps rest : List Pair) → length rest ≤ i → AreTaken key free ps (drop i rest) → has_pair free ps ≡ false
free_last key free i ps rest past before = before.1 free (omega arith) ∙ ap (has_pair free) (drop_all i rest past)

-- a part up to the end
pub part_is : {X : Type 0} (start : ℕ) (ps all : List X) → all ≡ ps → take (length all - start) (drop start all) ≡ drop start ps
part_is start ps all is = let long = length-drop start all in take_all (length all - start) (drop start all) (omega arith) ∙ ap (drop start) is

pub part_few : (start : ℕ) (ps part : List Pair) → part ≡ drop start ps → length part ≤ length ps
part_few start ps part is = let long = length-drop start ps in let same = ap (λ (qs : List Pair). length qs) is in omega arith
