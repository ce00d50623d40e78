-- The first entry of each type, one entry further.
use Rattle.std.proofs.Common.{◌≡◌, ℕ, zero, suc, ◌+◌, ◌<◌, ◌≤◌, ◌⊎◌, inl, inr, ⊎_elim, Bool, true, false, cond, if◌then◌else◌, List, Option, None, Some, refl, subst, sym, ap, ◌∙◌, arith, unwrap_or, BTreeMap, find}
use Rattle.std.specs.Prelude.{bytes_eq}
use Rattle.std.specs.Option.{option_or}
use Rattle.std.specs.Ordering.{is_eq, nat_cmp}
use Rattle.std.specs.Cmp.Lexicographic.{slice_cmp, texts_ties}
use Rattle.std.specs.BTreeMap.{Updates, get}
use Rattle.std.proofs.lemmas.Bool.{cases_eq, cond-true, cond-false}
use Rattle.std.proofs.lemmas.Slice.Eq.{bytes_eq-Decides}
use Rattle.fork_bytes.specs.Fork.{places}
use Rattle.fork_salvage.specs.declared.entry.ReferenceList.{ReferenceList}
use Rattle.fork_salvage.specs.declared.entry.Types.{Types}
use Rattle.fork_salvage.specs.Faults.{earlier_type}
use Rattle.fork_salvage.specs.Plans.{AreFirsts}
use Rattle.fork_salvage.specs.Salvage.{told_list}

-- the first of one number more that passes a test
find_more : (f : ℕ → Bool) (n at here : ℕ) → at + n ≡ here → find f (places (suc n) at 1) ≡ option_or (find f (places n at 1)) (cond (f here) (Some here) None)
find_more f zero at here is = let same : at ≡ here = omega arith in subst (λ (k : ℕ). cond (f at) (Some at) None ≡ cond (f k) (Some k) None) same refl
find_more f (suc n) at here is =
    elim (f at) as (λ b. cond b (Some at) (find f (places (suc n) (at + 1) 1)) ≡ option_or (cond b (Some at) (find f (places n (at + 1) 1))) (cond (f here) (Some here) None))
    [ true ↦ refl | false ↦ find_more f n (at + 1) here (omega arith) ]

found_here : (b : Bool) (at k : ℕ) (others : Option ℕ) → cond b (Some at) others ≡ Some k → ((b ≡ true) × (at ≡ k)) ⊎ (others ≡ Some k)
found_here true at k others is = inl (refl, ap (λ (o : Option ℕ). unwrap_or o 0) is)
found_here false at k others is = inr is

none_here : (b : Bool) (at : ℕ) (others : Option ℕ) → cond b (Some at) others ≡ None → (b ≡ false) × (others ≡ None)
none_here true at others is = absurd (cc is)
none_here false at others is = (refl, is)

-- what is found passes the test, and of all of which none is found, none does
found_below : (f : ℕ → Bool) (n at k : ℕ) → find f (places n at 1) ≡ Some k → (k < at + n) × (f k ≡ true)
found_below f zero at k is = absurd (cc is)
found_below f (suc n) at k is =
    ⊎_elim
    (λ here. let same : at ≡ k = here.1 in (omega arith, subst (λ (j : ℕ). f j ≡ true) same here.0))
    (λ (later : find f (places n (at + 1) 1) ≡ Some k). let found = found_below f n (at + 1) k later in let below : k < at + 1 + n = found.0 in (omega arith, found.1))
    (found_here (f at) at k (find f (places n (at + 1) 1)) is)

none_below : (f : ℕ → Bool) (n at k : ℕ) → find f (places n at 1) ≡ None → at ≤ k → k < at + n → f k ≡ false
none_below f zero at k is low below = absurd (omega arith)
none_below f (suc n) at k is low below =
    let none = none_here (f at) at (find f (places n (at + 1) 1)) is in
    ⊎_elim
    (λ same. subst (λ (j : ℕ). f j ≡ false) same none.0)
    (λ apart. none_below f n (at + 1) k none.1 (omega arith) (omega arith))
    (cases_eq at k)

-- the first of one entry more that has a type
type_more : (m : List ℕ) (types : Types) (kind : List ℕ) (n : ℕ) →
    earlier_type m types kind (places (n + 1) 0 1) ≡ option_or (earlier_type m types kind (places n 0 1)) (cond (bytes_eq (told_list m types n).kind kind) (Some n) None)
type_more m types kind n =
    let one : suc n ≡ n + 1 = omega arith in
    let last = cond (bytes_eq (told_list m types n).kind kind) (Some n) None in
    subst (λ (j : ℕ). earlier_type m types kind (places j 0 1) ≡ option_or (earlier_type m types kind (places n 0 1)) last) one
    (find_more (λ k. bytes_eq (told_list m types k).kind kind) n 0 n (omega arith))

none_or : (o : Option ℕ) → o ≡ option_or o None
none_or None = refl
none_or (Some k) = refl

-- what the table has of the type of an entry is the earlier one
found_as : (firsts : BTreeMap (List ℕ) ℕ) (m : List ℕ) (types : Types) (n : ℕ) (list : ReferenceList) (found : Option ℕ) → AreFirsts firsts m types n →
    list ≡ told_list m types n → found ≡ get (slice_cmp nat_cmp) firsts list.kind → earlier_type m types (told_list m types n).kind (places n 0 1) ≡ found
found_as firsts m types n list found are is has =
    sym (has ∙ are list.kind ∙ ap (λ (l : ReferenceList). earlier_type m types l.kind (places n 0 1)) is)

-- that one has the type, and where there is none, none before has it
pub earlier_has : (firsts : BTreeMap (List ℕ) ℕ) (m : List ℕ) (types : Types) (n : ℕ) (list : ReferenceList) (first : ℕ) → AreFirsts firsts m types n →
    list ≡ told_list m types n → Some first ≡ get (slice_cmp nat_cmp) firsts list.kind → (first < n) × ((told_list m types first).kind ≡ (told_list m types n).kind)
earlier_has firsts m types n list first are is has =
    let kind = (told_list m types n).kind in
    let found = found_below (λ i. bytes_eq (told_list m types i).kind kind) n 0 first (found_as firsts m types n list (Some first) are is has) in
    let below : first < 0 + n = found.0 in
    (omega arith, (bytes_eq-Decides (told_list m types first).kind kind).0 found.1)

pub none_has : (firsts : BTreeMap (List ℕ) ℕ) (m : List ℕ) (types : Types) (n : ℕ) (list : ReferenceList) → AreFirsts firsts m types n →
    list ≡ told_list m types n → None ≡ get (slice_cmp nat_cmp) firsts list.kind → (k : ℕ) → k < n → (told_list m types k).kind ≡ (told_list m types n).kind → ⊥
none_has firsts m types n list are is has k below same =
    let kind = (told_list m types n).kind in
    let isnt = none_below (λ i. bytes_eq (told_list m types i).kind kind) n 0 k (found_as firsts m types n list None are is has) (omega arith) (omega arith) in
    let equal = (bytes_eq-Decides (told_list m types k).kind kind).1 same in absurd (cc (isnt, equal))

-- an entry with the type of an earlier one changes nothing
pub kept : (firsts : BTreeMap (List ℕ) ℕ) (m : List ℕ) (types : Types) (n : ℕ) (list : ReferenceList) (first : ℕ) → AreFirsts firsts m types n →
    list ≡ told_list m types n → Some first ≡ get (slice_cmp nat_cmp) firsts list.kind → AreFirsts firsts m types (n + 1)
kept firsts m types n list first are is has other = are other ∙ (by (bytes_eq (told_list m types n).kind other) refl ∙ sym (type_more m types other n))
  where
    by : (same : Bool) → bytes_eq (told_list m types n).kind other ≡ same →
        earlier_type m types other (places n 0 1) ≡ option_or (earlier_type m types other (places n 0 1)) (cond (bytes_eq (told_list m types n).kind other) (Some n) None)
    by true same =
        let kinds = (bytes_eq-Decides (told_list m types n).kind other).0 same in
        let found : earlier_type m types other (places n 0 1) ≡ Some first =
        subst (λ (k : List ℕ). earlier_type m types k (places n 0 1) ≡ Some first) kinds (found_as firsts m types n list (Some first) are is has) in
        rw found refl
    by false same = rw same (none_or (earlier_type m types other (places n 0 1)))

-- an entry of which none before has the type is the first
pub added : (old new : BTreeMap (List ℕ) ℕ) (m : List ℕ) (types : Types) (n : ℕ) (list : ReferenceList) (key : List ℕ) → AreFirsts old m types n →
    list ≡ told_list m types n → None ≡ get (slice_cmp nat_cmp) old list.kind → key ≡ list.kind → Updates (slice_cmp nat_cmp) old new key (Some n) → AreFirsts new m types (n + 1)
added old new m types n list key are is has at updates other =
    updates.0 other ∙ (by (bytes_eq (told_list m types n).kind other) refl ∙ sym (type_more m types other n))
  where
    kind_is : key ≡ (told_list m types n).kind
    kind_is = at ∙ ap (λ (l : ReferenceList). l.kind) is

    by : (same : Bool) → bytes_eq (told_list m types n).kind other ≡ same →
        cond (is_eq (slice_cmp nat_cmp key other)) (Some n) (get (slice_cmp nat_cmp) old other)
        ≡ option_or (earlier_type m types other (places n 0 1)) (cond (bytes_eq (told_list m types n).kind other) (Some n) None)
    by true same =
        let kinds = (bytes_eq-Decides (told_list m types n).kind other).0 same in
        let none : earlier_type m types other (places n 0 1) ≡ None =
        subst (λ (k : List ℕ). earlier_type m types k (places n 0 1) ≡ None) kinds (found_as old m types n list None are is has) in
        rw (kind_is, sym (texts_ties (told_list m types n).kind other) ∙ same, same, none) refl
    by false same =
        rw (kind_is, sym (texts_ties (told_list m types n).kind other) ∙ same, same) (are other ∙ none_or (earlier_type m types other (places n 0 1)))
