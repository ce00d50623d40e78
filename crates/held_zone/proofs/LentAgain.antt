-- Blocks are lent one after another, where nothing was lent.
use Rattle.std.proofs.Common.{◌≡◌, ◌∙◌, ℕ, suc, ◌+◌, ◌<◌, ◌≤◌, ◌&&◌, ◌||◌, ◌==◌, not, Bool, true, false, cond, nat_lt, List, [], ◌∷◌, ◌++◌, length, map, take, drop, get_or, append_assoc, Option, Some, None, Ok, refl, sym, ap, subst, arith, length-append}
use Rattle.std.specs.Prelude.{is_some}
use Rattle.std.specs.List.{filter, list_all, list_any}
use Rattle.std.proofs.lemmas.Bool.{and_parts, not-true, or_from, or_parts, or_right}
use Rattle.std.proofs.lemmas.Bool.Decides.{nat_tests}
use Rattle.std.proofs.lemmas.List.{take_more, take-append-drop}
use Rattle.std.proofs.lemmas.List.Folds.{list_any-append}
use Rattle.mac_base.specs.declared.block.Kind.{Kind}
use Rattle.mac_base.specs.declared.block.Kind.TheVariants.{Free, Master, Ptr, Rel}
use Rattle.mac_base.specs.declared.error.OsErr.{OsErr}
use Rattle.mac_base.specs.declared.error.OsErr.TheVariants.{ParamErr}
use Rattle.mac_base.specs.HandleTable.{HandleTable, bytes_of, is_lent, is_locked, is_pointer}
use Rattle.mac_base.specs.HeadKind.{Shape}
use Rattle.mac_base.specs.Heap.{Heap}
use Rattle.mac_base.specs.Loans.{lent_out, may_be_lent, most_loans, owner_of, owners}
use Rattle.mac_base.specs.ZoneMap.{ZoneMap, is_named, sizes}
use Rattle.mac_base.specs.ZoneState.{ZoneState, with_heap}
use Rattle.mac_base.specs.declared.loan_call.LoanCall.TheVariants.{Lend}
use Rattle.mac_base.specs.declared.reply.Results.TheVariants.{Nothing}
use Rattle.mac_base.specs.LoanStep.{Loans, LoanStepUnless, loan_refusal}
use Rattle.mac_base.specs.Outcomes.{Outcome}
use Rattle.mac_base.specs.Tests.{IsBlock, MayBeLent, NotEmpty, NotLent}
use Rattle.zone_laws.proofs.Lent.{lent-filtered}
use Rattle.zone_laws.proofs.Tables.{eqb_same}
use Rattle.zone_laws.proofs.Refusals.{first_passed, passed as passed_test}
use Rattle.held_calls.specs.Holding as holding
use Rattle.held_calls.specs.Holding.{LoanSteps, is_held, loans_of}
use Rattle.held_calls.specs.declared.loans.Held.{Held}
use Rattle.held_zone.specs.Asleep.{CanBeLent, each_once, is_lendable, new_loans, with_these_lent}

-- whether a number is among others
abbrev there : List ℕ → ℕ → Bool
there xs x = list_any (λ y. y == x) xs

-- ---- which are lent

-- two tests that agree on numbers pass the same of them
filter_on : (p q : ℕ → Bool) (xs : List ℕ) → ((x : ℕ) → there xs x ≡ true → p x ≡ q x) → filter p xs ≡ filter q xs
filter_on p q [] same = refl
filter_on p q (x ∷ xs) same =
    ap (λ b. cond b (x ∷ filter p xs) (filter p xs)) (same x (ap (λ b. b || there xs x) (eqb_same x)))
    ∙ ap (λ (ys : List ℕ). cond (q x) (x ∷ ys) ys) (filter_on p q xs (λ y is. same y (or_right (x == y) (there xs y) is)))

swapped : (a b : Bool) → (a || b) ≡ (b || (a || false))
swapped true true = refl
swapped true false = refl
swapped false true = refl
swapped false false = refl

-- one more is lent after others
pub lent-more : (xs : List ℕ) (x : ℕ) (heap : Heap) → lent_out x (with_these_lent xs heap) ≡ with_these_lent (xs ++ x ∷ []) heap
lent-more xs x heap =
    let all = owners heap.map in
    let same : (y : ℕ) → there all y ≡ true → (y == x || there (filter (there xs) all) y) ≡ there (xs ++ x ∷ []) y =
    λ y is.
    let turned : (y == x) ≡ (x == y) = grind (arith, nat_tests) in
    ap (λ b. b || there (filter (there xs) all) y) turned
    ∙ ap (λ b. (x == y) || b) (lent-filtered (there xs) y all ∙ ap (λ b. there xs y && b) is ∙ and_true (there xs y))
    ∙ swapped (x == y) (there xs y)
    ∙ sym (list_any-append (λ z. z == y) xs (x ∷ []))
    in
    ap (λ (lent : List ℕ). let h : Heap = record heap { table = record heap.table { lent = lent } } in h) (filter_on (λ y. y == x || there (filter (there xs) all) y) (there (xs ++ x ∷ [])) all same)
  where
    and_true : (b : Bool) → (b && true) ≡ b
    and_true true = refl
    and_true false = refl

-- no test passes none
filter-none : (xs : List ℕ) → filter (λ y. false) xs ≡ []
filter-none [] = refl
filter-none (x ∷ xs) = filter-none xs

-- where nothing is lent, none of no blocks is
pub lent-none : (heap : Heap) → heap.table.lent ≡ [] → with_these_lent [] heap ≡ heap
lent-none heap none = ap (λ (lent : List ℕ). let h : Heap = record heap { table = record heap.table { lent = lent } } in h) (filter-none (owners heap.map) ∙ sym none)

-- ---- how many are lent

-- those that pass one test or the other are no more than those of both
filter-either : (p q : ℕ → Bool) (xs : List ℕ) → length (filter (λ x. p x || q x) xs) ≤ length (filter p xs) + length (filter q xs)
filter-either p q [] = omega arith
filter-either p q (x ∷ xs) = by_test (p x) (q x) (filter-either p q xs)
  where
    by_test : (a b : Bool) → length (filter (λ x. p x || q x) xs) ≤ length (filter p xs) + length (filter q xs)
        → length (cond (a || b) (x ∷ filter (λ x. p x || q x) xs) (filter (λ x. p x || q x) xs)) ≤ length (cond a (x ∷ filter p xs) (filter p xs)) + length (cond b (x ∷ filter q xs) (filter q xs))
    by_test true true few = omega arith
    by_test true false few = omega arith
    by_test false true few = omega arith
    by_test false false few = few

-- a number owns as many blocks as it names
owners-named : (x : ℕ) (m : ZoneMap) → length (filter (λ y. x == y) (owners m)) ≡ length (sizes (is_named x) m)
owners-named x [] = refl
owners-named x (e ∷ es) = by_kind e.kind (owners-named x es)
  where
    by_test : (y : ℕ) (a b : Bool) → a ≡ b → length (filter (λ y. x == y) (owners es)) ≡ length (sizes (is_named x) es)
        → length (cond a (y ∷ filter (λ y. x == y) (owners es)) (filter (λ y. x == y) (owners es))) ≡ length (cond b (e.size ∷ []) [] ++ sizes (is_named x) es)
    by_test y true true same rest = ap suc rest
    by_test y true false same rest = absurd (cc same)
    by_test y false true same rest = absurd (cc same)
    by_test y false false same rest = rest

    turned : (a b : ℕ) → (a == b) ≡ (b == a)
    turned a b = grind (arith, nat_tests)

    by_kind : (k : Kind) → length (filter (λ y. x == y) (owners es)) ≡ length (sizes (is_named x) es)
        → length (filter (λ y. x == y) (owner_of k ++ owners es)) ≡ length (cond (is_named x k) (e.size ∷ []) [] ++ sizes (is_named x) es)
    by_kind Free rest = rest
    by_kind Master rest = rest
    by_kind (Ptr p) rest = by_test p (x == p) (p == x) (turned x p) rest
    by_kind (Rel h) rest = by_test h (x == h) (h == x) (turned x h) rest

-- blocks that are lent are as many as their numbers
pub lent-few : (m : ZoneMap) (xs : List ℕ) → ((x : ℕ) → there xs x ≡ true → length (sizes (is_named x) m) ≡ 1) → length (filter (there xs) (owners m)) ≤ length xs
lent-few m [] one = let none = ap length (filter-none (owners m)) in omega arith
lent-few m (x ∷ xs) one =
    let first = owners-named x m ∙ one x (ap (λ b. b || there xs x) (eqb_same x)) in
    let rest = lent-few m xs (λ y is. one y (or_right (x == y) (there xs y) is)) in
    let all = filter-either (λ y. x == y) (there xs) (owners m) in
    omega arith

-- ---- each may be lent

-- what may be lent isn't refused
pub lendable : (z : ZoneState) (x : ℕ) → is_lendable z x ≡ true → loan_refusal z.shape z.heap (Lend x) ≡ None
lendable z x is = by_case (loan_refusal z.shape z.heap (Lend x)) is
  where
    by_case : (o : Option OsErr) → not (is_some o) ≡ true → o ≡ None
    by_case None is = refl
    by_case (Some code) is = absurd (cc is)

-- nor is it once others are lent, where there is a loan left
pub still-lendable : (s : Shape) (heap : Heap) (xs : List ℕ) (x : ℕ) → loan_refusal s heap (Lend x) ≡ None → there xs x ≡ false → length (with_these_lent xs heap).table.lent < most_loans → loan_refusal s (with_these_lent xs heap) (Lend x) ≡ None
still-lendable s heap xs x free apart few =
    let first = first_passed s heap (IsBlock x) (NotEmpty x ∷ NotLent x ∷ MayBeLent x ∷ []) free in
    let second = first_passed s heap (NotEmpty x) (NotLent x ∷ MayBeLent x ∷ []) first.1 in
    let third = first_passed s heap (NotLent x) (MayBeLent x ∷ []) second.1 in
    let fourth = first_passed s heap (MayBeLent x) [] third.1 in
    let fixed = (and_parts (is_pointer heap.table x || is_locked heap.table x) (nat_lt (length heap.table.lent) most_loans) (passed_test ParamErr (may_be_lent heap.table x) fourth.0)).0 in
    let here : is_lent (with_these_lent xs heap).table x ≡ false = lent-filtered (there xs) x (owners heap.map) ∙ ap (λ b. b && there (owners heap.map) x) apart in
    let count = length (with_these_lent xs heap).table.lent in
    let room : nat_lt count 8 ≡ true = grind (arith, nat_tests) in
    rw (first.0, second.0, here, fixed, room) refl

-- one that comes after others is none of them
pub once-apart : (xs : List ℕ) (x : ℕ) (ys : List ℕ) → each_once (xs ++ x ∷ ys) ≡ true → there xs x ≡ false
once-apart [] x ys once = refl
once-apart (y ∷ xs) x ys once =
    let parts = and_parts (not (there (xs ++ x ∷ ys) y)) (each_once (xs ++ x ∷ ys)) once in
    let other = or_parts (there xs y) (there (x ∷ ys) y) (sym (list_any-append (λ z. z == y) xs (x ∷ ys)) ∙ not-true (there (xs ++ x ∷ ys) y) parts.0) in
    let first = (or_parts (x == y) (there ys y) other.1).0 in
    let turned : (y == x) ≡ false = grind (arith, nat_tests) in
    or_from (y == x) (there xs x) turned (once-apart xs x ys parts.1)

-- those that come first are as few
pub all-at : (p : ℕ → Bool) (xs : List ℕ) (x : ℕ) (ys : List ℕ) → list_all p (xs ++ x ∷ ys) ≡ true → p x ≡ true
all-at p [] x ys all = (and_parts (p x) (list_all p ys) all).0
all-at p (y ∷ xs) x ys all = all-at p xs x ys (and_parts (p y) (list_all p (xs ++ x ∷ ys)) all).1

there-front : (xs ys : List ℕ) (x : ℕ) → there xs x ≡ true → there (xs ++ ys) x ≡ true
there-front xs ys x is = list_any-append (λ z. z == x) xs ys ∙ ap (λ b. b || there ys x) is

-- the next of blocks that may all be lent may be lent after those before it
pub next-lendable : (z : ZoneState) (xs : List ℕ) (x : ℕ) (ys : List ℕ) → CanBeLent z (xs ++ x ∷ ys) → loan_refusal z.shape (with_these_lent xs z.heap) (Lend x) ≡ None
next-lendable z xs x ys can =
    let long = length-append xs (x ∷ ys) in
    let most = can.few in
    let few = lent-few z.heap.map xs (λ y is. can.blocks y (there-front xs (x ∷ ys) y is)) in
    still-lendable z.shape z.heap xs x (lendable z x (all-at (is_lendable z) xs x ys can.each)) (once-apart xs x ys can.once) (omega arith)

-- ---- loans

-- one more new loan
new-more : (t : HandleTable) (xs : List ℕ) (x : ℕ) → new_loans t (xs ++ x ∷ []) ≡ new_loans t xs ++ new_loans t (x ∷ [])
new-more t [] x = refl
new-more t (y ∷ xs) x = ap (λ (loans : Loans). (y, bytes_of t y) ∷ loans) (new-more t xs x)

-- what one more of these blocks is lent by
pub record LendsNext (z new : ZoneState) (outcome : Outcome) (after : Loans) (xs : List ℕ) : Type 0 where
  pub made : outcome ≡ Ok Nothing
  pub zone : new ≡ with_heap (with_these_lent xs z.heap) z
  pub loans : after ≡ new_loans z.heap.table xs

-- after some of the blocks that may all be lent, the next is
pub lends-next : (z old new : ZoneState) (xs : List ℕ) (i : ℕ) (held after : List Held) (outcome : Outcome) → CanBeLent z xs → i < length xs → old ≡ with_heap (with_these_lent (take i xs) z.heap) z → loans_of held ≡ new_loans z.heap.table (take i xs)
    → LoanSteps old held (Lend (get_or xs i 0)) outcome new after → new.memory ≡ old.memory → LendsNext z new outcome (loans_of after) (take (i + 1) xs)
lends-next z old new xs i held after outcome can within was loans steps memory =
    let x : ℕ = get_or xs i 0 in
    let front : List ℕ = take i xs in
    let more : take (i + 1) xs ≡ front ++ x ∷ [] = take_more xs i 0 within in
    let all : xs ≡ front ++ x ∷ drop (i + 1) xs = sym (take-append-drop (i + 1) xs) ∙ ap (λ (ys : List ℕ). ys ++ drop (i + 1) xs) more ∙ append_assoc front (x ∷ []) (drop (i + 1) xs) in
    let free : loan_refusal old.shape old.heap (Lend x) ≡ None =
    ap (λ (o : ZoneState). loan_refusal o.shape o.heap (Lend x)) was ∙ next-lendable z front x (drop (i + 1) xs) (subst (CanBeLent z) all can) in
    let step : LoanStepUnless None (loans_of held) old.heap (Lend x) outcome (loans_of after) new.heap = subst (λ (o : Option OsErr). LoanStepUnless o (loans_of held) old.heap (Lend x) outcome (loans_of after) new.heap) free steps.0 in
    let heap : new.heap ≡ with_these_lent (take (i + 1) xs) z.heap = step.2 ∙ ap (λ (o : ZoneState). lent_out x o.heap) was ∙ lent-more front x z.heap ∙ ap (λ (ys : List ℕ). with_these_lent ys z.heap) (sym more) in
    let shape : new.shape ≡ z.shape = steps.1 ∙ ap (λ (o : ZoneState). o.shape) was in
    let region : new.memory ≡ z.memory = memory ∙ ap (λ (o : ZoneState). o.memory) was in
    record {
      made = step.0;
      zone = λ i. record { memory = region i; shape = shape i; heap = heap i };
      loans = step.1 ∙ (λ i. loans i ++ (x, bytes_of (was i).heap.table x) ∷ []) ∙ sym (new-more z.heap.table front x) ∙ ap (new_loans z.heap.table) (sym more);
    }

-- the blocks of loans
pub blocks-lent : (held : List Held) → holding.blocks_of held ≡ map (λ loan. loan.0) (loans_of held)
blocks-lent [] = refl
blocks-lent (h ∷ hs) = ap (λ (xs : List ℕ). h.block ∷ xs) (blocks-lent hs)

-- just those are among them whose loan is held
pub held-there : (x : ℕ) (held : List Held) → there (map (λ loan. loan.0) (loans_of held)) x ≡ is_held x held
held-there x [] = refl
held-there x (h ∷ hs) = ap (λ b. (h.block == x) || b) (held-there x hs)

-- each is there once
pub blocks-once : (held : List Held) → holding.EachOnce held → each_once (map (λ loan. loan.0) (loans_of held)) ≡ true
blocks-once [] once = refl
blocks-once (h ∷ hs) once = ap (λ b. not b && each_once (map (λ loan. loan.0) (loans_of hs))) (held-there h.block hs ∙ once.0) ∙ blocks-once hs once.1
