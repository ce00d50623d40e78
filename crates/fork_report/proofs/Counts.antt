-- How resources are counted, item by item.
use Rattle.std.proofs.Common.{◌≡◌, ◌≢◌, ℕ, ◌+◌, ◌<◌, ◌≤◌, ◌∙◌, Bool, true, false, List, [], ◌∷◌, length, None, Some, refl, sym, ap, subst, le-leb, arith}
use Rattle.std.specs.Prelude.{◌==◌, ◌||◌, nat_le, filter_map}
use Rattle.std.specs.List.{list_any}
use Rattle.std.proofs.lemmas.Bool.{cond-true, cond-false, or_from, or_left, or_right, lt-leb, ne_eqb}
use Rattle.fork_salvage.specs.declared.salvage.Item.{Item}
use Rattle.fork_salvage.specs.declared.salvage.Item.TheVariants.{Row, Lost, More, Run}
use Rattle.fork_answer.specs.Salvaged.{found_in}
use Rattle.fork_report.specs.declared.damage.TheConstants.{MOST_FOUND}
use Rattle.fork_report.specs.Damage.{is_more, is_run, tally_with}

-- what is counted of all items, where these are left: so many have been seen, and so many of these were read, and
-- whether one said that there are more
pub record Counted (all left : List Item) (readable found : ℕ) (more : Bool) : Type 0 where
  pub seen : found + length left ≡ length all
  pub read : readable + length (filter_map found_in left) ≡ length (filter_map found_in all)
  pub few : readable ≤ found
  pub runs : list_any is_run all ≡ list_any is_run left
  pub over : list_any is_more all ≡ more || list_any is_more left

or_first : (a b d : Bool) → (a || (b || d)) ≡ ((a || b) || d)
or_first true b d = refl
or_first false b d = refl

or_none : (a : Bool) → (a || false) ≡ a
or_none true = refl
or_none false = refl

-- an item that is no run of bytes
pub item_counted : (all left rest : List Item) (one : Item) (readable found : ℕ) (more : Bool) → left ≡ one ∷ rest → is_run one ≡ false → Counted all left readable found more
    → Counted all rest (readable + length (filter_map found_in (one ∷ []))) (found + 1) (more || is_more one)
item_counted all left rest (Row row) readable found more is fits counted = record {
  seen = omega (arith, ap (λ (t : List Item). length t) is, counted.seen);
  read = omega (arith, ap (λ (t : List Item). length (filter_map found_in t)) is, counted.read);
  few = omega (arith, counted.few);
  runs = counted.runs ∙ ap (λ (t : List Item). list_any is_run t) is;
  over = counted.over ∙ ap (λ (t : List Item). more || list_any is_more t) is ∙ or_first more false (list_any is_more rest);
}
item_counted all left rest (Lost lost) readable found more is fits counted = record {
  seen = omega (arith, ap (λ (t : List Item). length t) is, counted.seen);
  read = omega (arith, ap (λ (t : List Item). length (filter_map found_in t)) is, counted.read);
  few = omega (arith, counted.few);
  runs = counted.runs ∙ ap (λ (t : List Item). list_any is_run t) is;
  over = counted.over ∙ ap (λ (t : List Item). more || list_any is_more t) is ∙ or_first more false (list_any is_more rest);
}
item_counted all left rest More readable found more is fits counted = record {
  seen = omega (arith, ap (λ (t : List Item). length t) is, counted.seen);
  read = omega (arith, ap (λ (t : List Item). length (filter_map found_in t)) is, counted.read);
  few = omega (arith, counted.few);
  runs = counted.runs ∙ ap (λ (t : List Item). list_any is_run t) is;
  over = counted.over ∙ ap (λ (t : List Item). more || list_any is_more t) is ∙ or_first more true (list_any is_more rest);
}
item_counted all left rest (Run run) readable found more is fits counted = absurd cc

-- a run of bytes is found
pub run_counted : (all left rest : List Item) (one : Item) (readable found : ℕ) (more : Bool) → left ≡ one ∷ rest → is_run one ≡ true → Counted all left readable found more
    → list_any is_run all ≡ true
run_counted all left rest one readable found more is runs counted =
    counted.runs ∙ ap (λ (t : List Item). list_any is_run t) is ∙ or_left (is_run one) (list_any is_run rest) runs

-- nothing is left
pub all_counted : (all left : List Item) (readable found : ℕ) (more : Bool) → left ≡ [] → Counted all left readable found more
    → (found ≡ length all) × (readable ≡ length (filter_map found_in all)) × (list_any is_run all ≡ false) × (more ≡ list_any is_more all)
all_counted all left readable found more is counted = (
  omega (arith, ap (λ (t : List Item). length t) is, counted.seen),
  omega (arith, ap (λ (t : List Item). length (filter_map found_in t)) is, counted.read),
  counted.runs ∙ ap (λ (t : List Item). list_any is_run t) is,
  sym (counted.over ∙ ap (λ (t : List Item). more || list_any is_more t) is ∙ or_none more),
)

pub none_found : (readable found : ℕ) (runs more : Bool) → found ≡ 0 → None ≡ tally_with readable found runs more
none_found readable found runs more none = subst (λ (n : ℕ). None ≡ tally_with readable n runs more) (sym none) refl

pub runs_found : (readable found : ℕ) (runs more : Bool) → runs ≡ true → None ≡ tally_with readable found runs more
runs_found readable found runs more is = sym (cond-true _ _ _ (or_right (found == 0 || nat_le MOST_FOUND found) runs is))

pub many_found : (readable found : ℕ) (runs more : Bool) → MOST_FOUND ≤ found → None ≡ tally_with readable found runs more
many_found readable found runs more many =
    sym (cond-true _ _ _ (or_left (found == 0 || nat_le MOST_FOUND found) runs (or_right (found == 0) (nat_le MOST_FOUND found) (le-leb MOST_FOUND found many))))

some_found : (readable found : ℕ) (runs more : Bool) → found ≢ 0 → found < MOST_FOUND → runs ≡ false
    → Some (record { readable = readable; found = found; more = more }) ≡ tally_with readable found runs more
some_found readable found runs more some few none =
    sym (cond-false _ _ _ (or_from (found == 0 || nat_le MOST_FOUND found) runs (or_from (found == 0) (nat_le MOST_FOUND found) (ne_eqb found 0 some) (lt-leb MOST_FOUND found few)) none))

-- all items are counted, and there are some
pub all_told : (all left : List Item) (readable found : ℕ) (more : Bool) → left ≡ [] → found ≢ 0 → found < MOST_FOUND → Counted all left readable found more
    → Some (record { readable = readable; found = found; more = more }) ≡ tally_with (length (filter_map found_in all)) (length all) (list_any is_run all) (list_any is_more all)
all_told all left readable found more is some few counted =
    let whole = all_counted all left readable found more is counted in
    some_found readable found (list_any is_run all) more some few whole.2
    ∙ ap (λ (n : ℕ). tally_with n found (list_any is_run all) more) whole.1
    ∙ ap (λ (n : ℕ). tally_with (length (filter_map found_in all)) n (list_any is_run all) more) whole.0
    ∙ ap (tally_with (length (filter_map found_in all)) (length all) (list_any is_run all)) whole.3

pub one_at_most : (one : Item) → length (filter_map found_in (one ∷ [])) ≤ 1
one_at_most (Row row) = omega arith
one_at_most (Lost lost) = omega arith
one_at_most More = omega arith
one_at_most (Run run) = omega arith
